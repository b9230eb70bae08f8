use Rattle.std.proofs.Common.{◌≡◌, ◌∙◌, ◌<◌, ◌≤◌, true, false, ap, sym, subst}
use Rattle.std.proofs.Math.Facts.{to_z-of_z}
use Rattle.parquet_delta.specs.Arrays.{is_natural, size_of}
use Rattle.parquet_delta.proofs.Cuts.{all_cut, next_fits, negative_fails, long_fails}
use Rattle.parquet_delta.proofs.lengths.are_lengths.Goals as goal

pub returns-in_default-size_of : goal.returns-in_default-size_of
returns-in_default-size_of c =
    let negative = subst (λ z. is_natural z ≡ false) (to_z-of_z c.in-Some.ensures.range) c.in_default-size_of.ensures in
    sym (negative_fails _ _ c.in-Some.len _ c.in-Some.ensures.value negative) ∙ c.loop-len.invariant

pub returns-then-size-rest : goal.returns-then-size-rest
returns-then-size-rest c =
    let len = to_z-of_z c.in-Some.ensures.range in
    let natural = subst (λ z. is_natural z ≡ true) len c.in-Some-size_of.ensures.0 in
    let size = c.in-Some-size_of.ensures.1 ∙ ap size_of len in
    let long = subst (λ n. c.loop-len.rest < n) size c.if-size-rest.true in
    sym (long_fails _ _ c.in-Some.len _ c.in-Some.ensures.value natural long) ∙ c.loop-len.invariant

pub loop-len-preserved : goal.loop-len-preserved
loop-len-preserved c =
    let len = to_z-of_z c.in-Some.ensures.range in
    let natural = subst (λ z. is_natural z ≡ true) len c.in-Some-size_of.ensures.0 in
    let size = c.in-Some-size_of.ensures.1 ∙ ap size_of len in
    let short = subst (λ n. n ≤ c.loop-len.rest) size c.if-size-rest.false in
    rw size (sym (next_fits _ _ c.in-Some.len _ c.in-Some.ensures.value natural short) ∙ c.loop-len.invariant)

pub returns : goal.returns
returns c = sym (all_cut _ _ c.in_default.ensures.value.0) ∙ c.loop-len.invariant
