use Rattle.byte_masks.proofs.Joining.{Marks-either}
use Rattle.byte_masks.proofs.sight.Sight.fields_and_quotes.Goals as goal

pub returns : goal.returns
returns c field quote bytes sees = Marks-either bytes field quote c.args.self.now.fields c.args.self.now.quotes sees.fields sees.quotes
