use Rattle.std.proofs.Common.{length, ◌-◌, arith}
use Rattle.byte_masks.specs.Masks.{is_high}
use Rattle.byte_masks.proofs.Joining.{Marks-join}
use Rattle.byte_masks.proofs.lanes.line_high.Goals as goal

pub returns : goal.returns
returns g c =
    Marks-join (is_high) c.args.line.now g.row.N (length c.args.line.now - g.row.N) c.high.result c.high-2.result
    (omega arith) (omega arith) (omega arith) c.high.ensures c.high-2.ensures
