-- Where nothing was read of a range, none of its records is early.
use Rattle.std.proofs.Common.{◌≡◌, ℕ, ◌+◌, ◌*◌, ◌≤◌, Bool, true, false, ◌&&◌, List, [], ◌∷◌, length, Option, None, Some, refl, ap, ◌∙◌, arith, cond, if◌then◌else◌}
use Rattle.std.specs.Prelude.{filter, nat_le}
use Rattle.std.proofs.lemmas.List.Sums.{take_while-cons}
use Rattle.std.proofs.lemmas.Bool.{lt-leb, leb-true}
use Rattle.line_window.specs.Cuts.{Cut, cuts}
use Rattle.select_reply.specs.Yields.{Yielded}
use Rattle.select_reply.specs.Answers.{is_answered, processed, shortest_front}
use Rattle.record_stream.specs.Selected.{lies_in, first_of, selected_cuts, yields}
use Rattle.record_stream.specs.Quoted.{quoted_yields}
use Rattle.record_stream.specs.Early.{UnreadAreLate, UnreadQuotedAreLate}
use Rattle.record_stream.specs.Replied.{early}
use Rattle.record_stream.proofs.BoundLaws.{HeadFrom, CutsFrom, head_from}

first_holds : (a b : Bool) → (a && b) ≡ true → a ≡ true
first_holds true b is = refl
first_holds false b is = is

-- the lines of a range start in it
range_from : (range : Option (ℕ × ℕ)) (cs : List Cut) → CutsFrom (first_of range) (filter (λ (c : Cut). lies_in range c.start) cs)
range_from None [] = tt
range_from None (cut ∷ cs) = range_from None cs
range_from (Some range) [] = tt
range_from (Some range) (cut ∷ cs) =
    let rest = filter (λ (c : Cut). lies_in (Some range) c.start) cs in
    let P : Bool → Type 0 = λ b. lies_in (Some range) cut.start ≡ b → CutsFrom range.0 (if b then cut ∷ rest else rest) in
    (elim (lies_in (Some range) cut.start) as P [
      | true ↦ λ is. (leb-true range.0 cut.start (first_holds (nat_le range.0 cut.start) (nat_le cut.start range.1) is), range_from (Some range) cs)
      | false ↦ λ is. range_from (Some range) cs
    ]) refl

selected_from : (d object : List ℕ) (range : Option (ℕ × ℕ)) → CutsFrom (first_of range) (selected_cuts d object range)
unfolding selected_cuts
selected_from d object range = range_from range (cuts d object 0 (length object))

front_from : (n : ℕ) (test : List Yielded → Bool) (ys : List Yielded) → HeadFrom n ys → HeadFrom n (shortest_front test ys)
front_from n test [] from = tt
front_from n test (y ∷ ys) from =
    let P : Bool → Type 0 = λ b. HeadFrom n (if b then [] else y ∷ shortest_front (λ front. test (y ∷ front)) ys) in
    elim (test []) as P [ true ↦ tt | false ↦ from ]

none_early : (longest n upto : ℕ) (ys : List Yielded) → upto ≤ n + (longest + 65541) → HeadFrom n ys → early longest upto ys ≡ []
none_early longest n upto [] near from = refl
none_early longest n upto (y ∷ ys) near from =
    let late : nat_le (y.start + y.len + (2 * longest + 5 * 65536)) upto ≡ false = lt-leb (y.start + y.len + (2 * longest + 5 * 65536)) upto (omega arith) in
    take_while-cons (λ y. nat_le (y.start + y.len + (2 * longest + 5 * 65536)) upto) y ys ∙ ap (λ b. cond b (y ∷ early longest upto ys) []) late

pub unread_are_late : UnreadAreLate
unread_are_late lines longest d object range limit upto near =
    let ys = yields lines longest d object range in
    none_early longest (first_of range) upto (processed limit ys) (omega (arith, near))
    (front_from (first_of range) (is_answered limit) ys (head_from lines longest (first_of range) (selected_cuts d object range) (selected_from d object range)))

any_from : (ys : List Yielded) → HeadFrom 0 ys
any_from [] = tt
any_from (y ∷ ys) = omega arith

pub unread_quoted_are_late : UnreadQuotedAreLate
unread_quoted_are_late lines longest d object limit upto near =
    let done = processed limit (quoted_yields lines longest d object) in
    none_early longest 0 upto done (omega (arith, near)) (any_from done)
