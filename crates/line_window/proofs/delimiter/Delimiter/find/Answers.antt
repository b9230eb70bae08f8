use Rattle.line_window.proofs.DelimiterLaws.{one_found}
use Rattle.line_window.proofs.delimiter.Delimiter.find.Goals as goal

pub returns-in-One : goal.returns-in-One
returns-in-One c = rw c.in-One.is (one_found c.in-One.byte c.args.bytes.now c.find_byte.result c.find_byte.ensures)
