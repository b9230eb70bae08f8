use Rattle.std.proofs.Common.{◌+◌}
use Rattle.record_output.proofs.Escaping.{rest_is}
use Rattle.record_output.proofs.Quoting.{cut_none, cut_some, cut_shorter}
use Rattle.record_output.proofs.csv.cut_at_escaped.Goals as goal

pub returns-in_err-at : goal.returns-in_err-at
returns-in_err-at c = rw c.from_residual.ensures (cut_none c.args.csv.now c.args.text.now c.in_err-at.ensures)

pub returns : goal.returns
returns c = rw (rest_is (c.in_ok-at.at + 1) c.args.text.now) (cut_shorter c.args.csv.now c.args.text.now c.in_ok-at.at c.in_ok-at.ensures, cut_some c.args.csv.now c.args.text.now c.in_ok-at.at c.in_ok-at.ensures)
