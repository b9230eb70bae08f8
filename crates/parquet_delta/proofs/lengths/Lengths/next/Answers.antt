use Rattle.std.proofs.Common.{◌≡◌, ◌∙◌, ◌∷◌, false, true, take, drop, ap, sym, subst}
use Rattle.std.proofs.lemmas.List.{length-drop}
use Rattle.std.proofs.Math.Facts.{to_z-of_z}
use Rattle.parquet_delta.specs.Arrays.{is_natural, size_of, arrays}
use Rattle.parquet_delta.proofs.Cuts.{none_cut, first_fits, next_cut}
use Rattle.parquet_delta.proofs.lengths.Lengths.next.Goals as goal

pub returns-in_default : goal.returns-in_default
returns-in_default c =
    let none = c.in_default.ensures.value in
    (sym c.self.view_is ∙ none_cut c.self.inside.lengths.left _ none.0, ap (λ l. arrays l.left c.self.inside.rest.now) none.1 ∙ c.self.view_is)

pub unreachable-requires : goal.unreachable-requires
unreachable-requires c =
    let len = to_z-of_z c.in-Some.ensures.range in
    let natural : is_natural c.in-Some.len ≡ true = (first_fits _ _ c.in-Some.len _ c.in-Some.ensures.value c.self.invariant).0 in
    let negative : is_natural c.in-Some.len ≡ false = subst (λ z. is_natural z ≡ false) len c.in_default-size_of.ensures in
    let clash : false ≡ true = sym negative ∙ natural in
    cc

pub split_at-requires : goal.split_at-requires
split_at-requires c =
    let len = to_z-of_z c.in-Some.ensures.range in
    let fits = first_fits _ _ c.in-Some.len _ c.in-Some.ensures.value c.self.invariant in
    rw c.in-Some-size_of.ensures.1 (rw len fits.1)

pub invariant_of-self-2 : goal.invariant_of-self-2
invariant_of-self-2 c =
    let size = c.in-Some-size_of.ensures.1 ∙ ap size_of (to_z-of_z c.in-Some.ensures.range) in
    let fits = first_fits _ _ c.in-Some.len _ c.in-Some.ensures.value c.self.invariant in
    rw c.split_at.ensures.back (rw (length-drop c.in-Some-size_of.size c.self.inside.rest.now) (rw size fits.2))

pub returns : goal.returns
returns c =
    let size = c.in-Some-size_of.ensures.1 ∙ ap size_of (to_z-of_z c.in-Some.ensures.range) in
    let all = sym c.self.view_is ∙ next_cut _ _ c.in-Some.len c.self.inside.rest.now c.in-Some.ensures.value in
    rw c.split_at.ensures.front
    (rw c.split_at.ensures.back
    (all ∙ ap (λ n. take n c.self.inside.rest.now ∷ arrays c.next.new.self.left (drop n c.self.inside.rest.now)) (sym size)))
