use Rattle.std.proofs.Common.{◌≡◌, ◌-◌, ◌≤◌, length, arith, length-take, length-drop, refl}
use Rattle.std.proofs.KnownBytes.{Consumes-trans}
use Rattle.select_tool.proofs.Filling.{take-filled, length-filled}
use Rattle.select_tool.proofs.input.fill.Goals as goal

pub loop-len-preserved : goal.loop-len-preserved
loop-len-preserved g c =
    let len = c.loop-len.len in
    let count = c.in_ok-count.count in
    let before = c.loop-len.buffer in
    let piece = c.read.new.buf in
    let room : length piece ≡ length before - len = omega (arith, simp (length-take, length-drop) at c.read.auto.buf) in
    let within : len ≤ length before = c.loop-len.invariant.within in
    let some : count ≤ length piece = omega (arith, simp (length-take, length-drop) at c.in_ok-count.ensures.within) in
    record {
      within = omega (arith, length-filled len (length before - len) before piece within refl room);
      taken = rw (take-filled len (length before - len) count before piece within some)
          (Consumes-trans _ _ _ _ _ c.loop-len.invariant.taken c.in_ok-count.ensures.bytes.0);
      count = omega (arith, c.loop-len.invariant.count, c.in_ok-count.ensures.taken);
      faults = omega (arith, c.loop-len.invariant.faults, c.in_ok-count.ensures.faults.kept);
    }
