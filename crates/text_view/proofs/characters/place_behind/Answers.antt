use Rattle.std.proofs.Common.{◌≡◌, arith, length, sym}
use Rattle.text_view.proofs.Counts.{cut_before, cut_end}
use Rattle.text_view.proofs.characters.place_behind.Goals as goal

pub returns-then-left-eq0 : goal.returns-then-left-eq0
returns-then-left-eq0 c =
    let first = rw c.as_bytes-bytes.ensures.value at c.if-is_first.ensures in
    let count = rw c.as_bytes-bytes.ensures.value at c.each.invariant in
    cut_before c.args.text.now c.args.count c.each.place c.utf8.text (omega (arith, c.as_bytes-bytes.ensures.len)) (sym first) (omega (arith, count))

pub returns : goal.returns
returns c =
    let count = rw c.as_bytes-bytes.ensures.value at c.each.invariant in
    let place : c.each.place ≡ length c.as_bytes-bytes.result.now = omega arith in
    let all = rw place at count in
    cut_end c.args.text.now c.args.count (length c.as_bytes-bytes.result.now) c.utf8.text c.as_bytes-bytes.ensures.len (omega (arith, all))
