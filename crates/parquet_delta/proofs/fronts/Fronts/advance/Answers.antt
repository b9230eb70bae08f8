use Rattle.std.proofs.Common.{◌≡◌, ◌≤◌, ◌∙◌, ◌+◌, ◌++◌, ◌∷◌, true, false, length, take, ap, sym, subst}
use Rattle.std.specs.Prelude.{vec_capacity}
use Rattle.std.proofs.Math.Facts.{to_z-of_z}
use Rattle.parquet_delta.specs.Arrays.{is_natural, size_of, joined, longest_of, HasRoom}
use Rattle.parquet_delta.proofs.Joins.{next_of, has_suffix, next_joined, none_joined, length_joined, more_room}
use Rattle.parquet_delta.proofs.fronts.Fronts.advance.Goals as goal

pub returns-in_default : goal.returns-in_default
returns-in_default c =
    let none = c.in_default.ensures.value in (
      sym (ap (λ v. v.left) c.self.view_is) ∙ none_joined c.self.inside.value.items _ c.self.inside.suffixes none.0,
      ap (λ p. record { left = joined c.self.inside.value.items p.left c.self.inside.suffixes; value = c.self.inside.value.items }) none.1 ∙ c.self.view_is,
    )

pub unreachable-requires : goal.unreachable-requires
unreachable-requires c = has_suffix _ _ _ _ _ c.in-Some.prefix c.in-Some.ensures.value c.in_default-next.ensures.0 c.self.invariant

pub unreachable-requires-in_default-size_of : goal.unreachable-requires-in_default-size_of
unreachable-requires-in_default-size_of c =
    let next = next_of _ _ _ _ _ _ c.in-Some.prefix c.in-Some-next.suffix.now c.in-Some.ensures.value c.in-Some-next.ensures c.self.invariant in
    let negative : is_natural c.in-Some.prefix ≡ false = subst (λ z. is_natural z ≡ false) (to_z-of_z c.in-Some.ensures.range) c.in_default-size_of.ensures in
    let clash : false ≡ true = sym negative ∙ next.natural in
    cc

pub rejoin-requires-clause-front : goal.rejoin-requires-clause-front
rejoin-requires-clause-front c =
    let next = next_of _ _ _ _ _ _ c.in-Some.prefix c.in-Some-next.suffix.now c.in-Some.ensures.value c.in-Some-next.ensures c.self.invariant in
    let size = c.in-Some-size_of.ensures.1 ∙ ap size_of (to_z-of_z c.in-Some.ensures.range) in
    rw size next.front

pub rejoin-requires-clause-room : goal.rejoin-requires-clause-room
rejoin-requires-clause-room c =
    let next = next_of _ _ _ _ _ _ c.in-Some.prefix c.in-Some-next.suffix.now c.in-Some.ensures.value c.in-Some-next.ensures c.self.invariant in
    let size = c.in-Some-size_of.ensures.1 ∙ ap size_of (to_z-of_z c.in-Some.ensures.range) in
    rw size next.fits

pub invariant_of-self-2 : goal.invariant_of-self-2
invariant_of-self-2 c =
    let next = next_of _ _ _ _ _ _ c.in-Some.prefix c.in-Some-next.suffix.now c.in-Some.ensures.value c.in-Some-next.ensures c.self.invariant in
    let size = c.in-Some-size_of.ensures.1 ∙ ap size_of (to_z-of_z c.in-Some.ensures.range) in
    let front = subst (λ n. n ≤ length c.self.inside.value.items) (sym size) next.front in
    let len = ap length c.rejoin.ensures.bytes ∙ length_joined c.in-Some-size_of.size c.self.inside.value.items c.in-Some-next.suffix.now front
    ∙ ap (λ n. n + length c.in-Some-next.suffix.now) size in
    more_room (longest_of (length c.rejoin.new.value.items) c.next.new.self.left c.next-2.new.self) _ _
    (subst (λ n. HasRoom (longest_of n c.next.new.self.left c.next-2.new.self) (vec_capacity c.self.inside.value)) (sym len) next.others)
    c.rejoin.ensures.room

pub returns : goal.returns
returns c =
    let size = c.in-Some-size_of.ensures.1 ∙ ap size_of (to_z-of_z c.in-Some.ensures.range) in
    let value = c.rejoin.ensures.bytes ∙ ap (λ n. take n c.self.inside.value.items ++ c.in-Some-next.suffix.now) size in
    sym (ap (λ v. v.left) c.self.view_is)
    ∙ next_joined c.self.inside.value.items _ _ _ _ c.in-Some.prefix c.in-Some-next.suffix.now c.in-Some.ensures.value c.in-Some-next.ensures
    ∙ ap (λ v. v ∷ joined v c.next.new.self.left c.next-2.new.self) (sym value)
