use Rattle.std.proofs.Common.{◌-◌, ◌≤◌, length, drop, arith}
use Rattle.std.proofs.Math.ListN.{length-drop}
use Rattle.thrift_compact.proofs.VarintLemmas.{number_from_before, ten_groups}
use Rattle.thrift_compact.proofs.number.group_number.Goals as goal

pub loop-index-preserved : goal.loop-index-preserved
loop-index-preserved c =
    let bytes = c.args.bytes.now in
    let before = c.loop-index.index - 1 in
    let short : length (drop before bytes) ≤ 10 = rw length-drop (omega arith) in
    let e = number_from_before bytes c.loop-index.index c.loop-index.number c.loop-index-test.true c.loop-index.invariant.within c.loop-index.invariant.groups in
    record {
      within = omega arith;
      groups = e;
      bound = omega (arith, e, ten_groups (drop before bytes) short);
    }
