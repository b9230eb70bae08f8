use Rattle.std.proofs.Common.{◌≡◌, ◌/◌, ◌%◌, cond, [], ◌∷◌, ◌++◌, map, sym, refl, ap, ◌∙◌, arith}
use Rattle.std.specs.Prelude.{slice_range}
use Rattle.std.specs.Char.{digit_char}
use Rattle.std.specs.Int.Digits.{digits_of}
use Rattle.std.proofs.lemmas.List.{append-nil, append_assoc, map-append, length-set}
use Rattle.std.proofs.lemmas.Bool.{eq-eqb, ne_eqb}
use Rattle.std.proofs.lemmas.Int.Digits.{digits_of_step, length-digits_of_step, length-digits_of-le}
use Rattle.http_replies.specs.Chunks.{hex_of}
use Rattle.http_replies.proofs.Digits.{digit_at, range_set}
use Rattle.http_replies.proofs.hex.Hex.of.Goals as goal

pub returns-then-n-eq0 : goal.returns-then-n-eq0
unfolding hex_of
returns-then-n-eq0 c = ap (λ t. cond t (48 ∷ []) (map digit_char (digits_of 16 c.args.n))) (sym (eq-eqb c.args.n 0 c.if-n-eq0.true))

pub loop-left-init : goal.loop-left-init
loop-left-init c = (append-nil _, length-digits_of-le 16 16 c.args.n (omega arith) (omega arith), omega arith, refl)

pub overflow_sub-start : goal.overflow_sub-start
overflow_sub-start c = omega (arith, length-digits_of_step 16 c.loop-left.left (omega arith) c.loop-left-test.true)

pub loop-left-preserved : goal.loop-left-preserved
loop-left-preserved c =
    let l = c.loop-left in
    let shorter = length-digits_of_step 16 l.left (omega arith) c.loop-left-test.true in
    let front = map digit_char (digits_of 16 (l.left / 16)) in
    let digit = digit_at (l.left % 16) (omega arith) in
    let step = ap (map digit_char) (digits_of_step 16 l.left (omega arith) c.loop-left-test.true) ∙ map-append digit_char (digits_of 16 (l.left / 16)) _ in (
      ap (λ t. front ++ t) (range_set l.bytes l.start _ (omega arith) l.invariant.2 l.invariant.3 ∙ ap (λ y. y ∷ slice_range l.bytes l.start 16) digit)
          ∙ sym (append_assoc front (digit_char (l.left % 16) ∷ []) _)
          ∙ ap (λ t. t ++ slice_range l.bytes l.start 16) (sym step)
          ∙ l.invariant.0,
      omega arith,
      omega arith,
      length-set l.bytes _ _ ∙ l.invariant.3,
    )

pub returns : goal.returns
unfolding hex_of
returns c =
    let none : c.loop-left.left ≡ 0 = omega arith in
    ap (λ k. map digit_char (digits_of 16 k) ++ slice_range c.loop-left.bytes c.loop-left.start 16) (sym none)
    ∙ c.loop-left.invariant.0
    ∙ ap (λ t. cond t (48 ∷ []) (map digit_char (digits_of 16 c.args.n))) (sym (ne_eqb c.args.n 0 c.if-n-eq0.false))
