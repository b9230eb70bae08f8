-- An ASCII character stands first where its byte does.
use Rattle.request_elements.proofs.TextLaws.{splits}
use Rattle.request_elements.proofs.text.split.Goals as goal

pub returns : goal.returns
returns c = splits c.args.at c.args.text.now c.split_once.result c.split_once.ensures.cases c.requires.ascii
