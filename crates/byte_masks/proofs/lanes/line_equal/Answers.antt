use Rattle.std.proofs.Common.{length, ◌-◌, arith}
use Rattle.byte_masks.specs.Masks.{is_byte}
use Rattle.byte_masks.proofs.Joining.{Marks-join}
use Rattle.byte_masks.proofs.lanes.line_equal.Goals as goal

pub returns : goal.returns
returns g c =
    Marks-join (is_byte c.args.byte) c.args.line.now g.row.N (length c.args.line.now - g.row.N) c.equal.result c.equal-2.result
    (omega arith) (omega arith) (omega arith) c.equal.ensures c.equal-2.ensures
