use Rattle.std.proofs.Common.{◌≡◌, ◌≤◌, [], length, refl, arith, ap}
use Rattle.text_view.proofs.Runs.{over_full, fits_whole, written_whole, shown_empty, nil_from_test, restored}
use Rattle.text_view.proofs.pieces.write_all.Goals as goal

pub returns-in-Err-clause-fits : goal.returns-in-Err-clause-fits
returns-in-Err-clause-fits c = (λ e. absurd (cc), λ h. absurd (over_full _ _ _ _ c.each.invariant.written c.in-Err.ensures.over h))

pub returns-clause-fits : goal.returns-clause-fits
returns-clause-fits c =
    let ended : c.each.cursor.rest.now ≡ [] = nil_from_test _ _ c.is_empty.ensures c.each-test.false in
    let within : length c.args.out.now.bytes ≤ c.args.out.now.room = omega (arith, ap length c.bytes-before.ensures.value, c.bytes-before.ensures.fits) in
    (λ e. fits_whole _ _ _ _ c.each.invariant.written (shown_empty _ _ _ ended) within, λ h. refl)

pub returns-clause-ok : goal.returns-clause-ok
returns-clause-ok c =
    let ended : c.each.cursor.rest.now ≡ [] = nil_from_test _ _ c.is_empty.ensures c.each-test.false in
    written_whole _ _ _ _ c.each.invariant.written (shown_empty _ _ _ ended)

pub returns-in-Err-clause-utf8 : goal.returns-in-Err-clause-utf8
returns-in-Err-clause-utf8 c =
    restored c.args.out.now c.write_piece.new.out c.each.out c.truncate.new.self (length c.bytes-before.result.now) (ap length c.bytes-before.ensures.value) c.truncate.ensures c.in-Err.ensures.full c.each.invariant.written.front
