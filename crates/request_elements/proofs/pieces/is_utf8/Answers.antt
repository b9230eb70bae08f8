use Rattle.request_elements.proofs.ByteLaws.{test_is_utf8}
use Rattle.request_elements.proofs.pieces.is_utf8.Goals as goal

pub returns : goal.returns
returns c = test_is_utf8 c.is_utf8.result c.args.bytes.now c.is_utf8.ensures
