-- What the bytes ahead of a window tell of the object.
use Rattle.std.proofs.Common.{◌≡◌, ℕ, zero, suc, ◌+◌, ◌-◌, ◌≤◌, ◌<◌, Bool, true, false, cond, ◌&&◌, ◌==◌, List, [], ◌∷◌, ◌++◌, take, drop, length, refl, sym, ◌∙◌, ap, subst, arith, length-drop, ⊎_elim, inl, inr, ◌⊎◌, Result, Ok, Err, Option, Some, None}
use Rattle.std.proofs.lemmas.Bool.{cases_lt}
use Rattle.std.proofs.lemmas.List.{append-nil, length-take, take-append-drop, drop-drop, drop_all}
use Rattle.std.specs.Str.{bytes_eq}
use Rattle.line_window.specs.Sliding.{View, Holds, IsSound}
use Rattle.line_window.specs.Ahead.{IsAhead}
use Rattle.csv_cutter.specs.declared.dialect.Dialect.{Dialect}
use Rattle.csv_cutter.specs.declared.walk.State.{State}
use Rattle.csv_cutter.specs.declared.looks.Look.{Look}
use Rattle.csv_cutter.specs.declared.looks.Ahead.{Ahead}
use Rattle.csv_cutter.specs.declared.looks.Ahead.TheVariants.{Delimiter, ObjectEnd, More}
use Rattle.csv_cutter.specs.Records.{delimiter_of}
use Rattle.csv_cutter.specs.Stops.{delimited, stop_from, StopsAt, mark_len, first_state}
use Rattle.csv_cutter.specs.Looks.{IsLook, LooksAt, Ends, EndsAt, Opens, OpensAt}
use Rattle.csv_cutter.specs.declared.looks.Opening.{Opening}
use Rattle.csv_cutter.specs.declared.walk.State.TheVariants.{Start, Comment}
use Rattle.csv_cutter.specs.Fields.{begins_with}
use Rattle.std.specs.Result.{MatchResult}
use Rattle.csv_cutter.proofs.Characters.{Delimits}
use Rattle.csv_cutter.proofs.Stopping.{stop_here, stands_first, stands_short, width_some, same_test, are_same, and_right}
use Rattle.csv_cutter.proofs.Striding.{front_take}

drop_front : (n : ℕ) (xs more : List ℕ) → n ≤ length xs → drop n xs ++ more ≡ drop n (xs ++ more)
drop_front zero [] more h = sym (drop_zero more)
  where
    drop_zero : (ys : List ℕ) → drop 0 ys ≡ ys
    drop_zero [] = refl
    drop_zero (y ∷ ys) = refl
drop_front (suc n) [] more h = absurd (omega arith)
drop_front zero (x ∷ xs) more h = refl
drop_front (suc n) (x ∷ xs) more h = drop_front n xs more (omega arith)

-- where the walk stops
stop_zero : (d : Dialect) → Delimits d → (bytes more : List ℕ) (s : State) (at : ℕ) → StopsAt d bytes s at → stop_from d s (drop at bytes ++ more) ≡ 0
stop_zero d p bytes more s at h = by_rest (drop at bytes) (omega (arith, length-drop at bytes, (stands_first d p bytes at h.here).0)) test
  where
    test : delimited d (drop at bytes ++ more) ≡ true
    test = same_test (take (length (delimiter_of d)) (drop at bytes ++ more)) (delimiter_of d)
        (front_take (length (delimiter_of d)) (drop at bytes) more (omega (arith, stands_short d bytes at (width_some d p) h.here, length-drop at bytes)) ∙ h.here)

    by_rest : (rest : List ℕ) → 0 < length rest → delimited d (rest ++ more) ≡ true → stop_from d s (rest ++ more) ≡ 0
    by_rest [] l e = absurd (omega arith)
    by_rest (c ∷ cs) l e = stop_here d s c (cs ++ more) (ap (λ b. b && delimited d (c ∷ (cs ++ more))) h.ends ∙ e)

-- the object from a place that the bytes ahead reach
rest_is : (v : View) (object bytes : List ℕ) (n : ℕ) → n ≤ length bytes → bytes ≡ take (length bytes) (drop v.place object)
    → drop n bytes ++ drop (length bytes) (drop v.place object) ≡ drop (v.place + n) object
rest_is v object bytes n l e =
    drop_front n bytes (drop (length bytes) (drop v.place object)) l
    ∙ ap (λ xs. drop n (xs ++ drop (length bytes) (drop v.place object))) e ∙ ap (drop n) (take-append-drop (length bytes) (drop v.place object)) ∙ drop-drop n v.place object

nothing_more : (v : View) (object bytes : List ℕ) → Holds object v → v.place + length bytes ≡ v.size → drop (length bytes) (drop v.place object) ≡ []
nothing_more v object bytes h e = drop_all (length bytes) (drop v.place object) (omega (arith, h.size, length-drop v.place object))

pub look_is : (d : Dialect) → Delimits d → (v : View) (bytes : List ℕ) (last : Bool) (from : ℕ) (s : State) (look : Look) → IsAhead v (from + 2) bytes
    → (last ≡ true → length bytes < from + 2) → LooksAt d bytes last from s look → IsLook d v from s look
look_is d p v bytes last from s look a short l = record {
  low = l.strides.low;
  high = omega (arith, l.strides.high, ap length a.bytes);
  walked = λ object h.
      ap (stop_from d s) (sym (rest_is v object bytes from (omega (arith, l.strides.low, l.strides.high)) (a.told object h)))
      ∙ l.strides.same (drop (length bytes) (drop v.place object)) (λ e. nothing_more v object bytes h (a.enough (short e)))
      ∙ ap (λ xs. look.at - from + stop_from d look.state xs) (rest_is v object bytes look.at l.strides.high (a.told object h));
  ends = by_end look.end l.ends;
}
  where
    by_end : (end : Ahead) → EndsAt d bytes last from look.state look.at end → Ends d v from look.state look.at end
    by_end Delimiter e = (
      omega (arith, stands_short d bytes look.at (width_some d p) e.here, ap length a.bytes),
      λ object h. ap (stop_from d look.state) (sym (rest_is v object bytes look.at l.strides.high (a.told object h))) ∙ stop_zero d p bytes (drop (length bytes) (drop v.place object)) look.state look.at e,
    )
    by_end ObjectEnd e = omega (arith, e.1, a.enough (short e.0))
    by_end More e = e

pub at_ok : {A E : Type 0} (P : A → Type 0) (Q : E → Type 0) (r : Result A E) (a : A) → r ≡ Ok a → MatchResult r P Q → P a
at_ok {A = A} {E = E} P Q r a e h = let M : Result A E → Type 0 = λ x. MatchResult x P Q in subst M e h

-- ---- a record's first bytes

-- bytes that are enough to tell a mark and the byte behind it, or all
more_or_none : (v : View) (object bytes : List ℕ) → Holds object v → IsAhead v 4 bytes → (4 ≤ length bytes) ⊎ (drop (length bytes) (drop v.place object) ≡ [])
more_or_none v object bytes h a = ⊎_elim (λ l. inr (nothing_more v object bytes h (a.enough l))) (λ g. inl g) (cases_lt (length bytes) 4)

mark_front : (p : ℕ) (bytes more : List ℕ) → (4 ≤ length bytes) ⊎ (more ≡ []) → mark_len p bytes ≡ mark_len p (bytes ++ more)
mark_front p bytes more h =
    let len : List ℕ → ℕ = λ l. cond (p == 0 && bytes_eq l (0xef ∷ 0xbb ∷ 0xbf ∷ [])) 3 0 in
    ap len
    (⊎_elim (λ l. sym (front_take 3 bytes more (omega arith))) (λ none. ap (take 3) (sym (append-nil bytes) ∙ ap (λ m. bytes ++ m) (sym none))) h)

state_front : (d : Dialect) (n : ℕ) (bytes more : List ℕ) → n ≤ 3 → (4 ≤ length bytes) ⊎ (more ≡ []) → first_state d (drop n bytes) ≡ first_state d (drop n bytes ++ more)
state_front d n bytes more few h =
    ap (λ b. cond b Comment Start)
    (⊎_elim (λ l. by_rest (drop n bytes) (omega (arith, length-drop n bytes))) (λ none. ap (begins_with d.comment) (sym (append-nil (drop n bytes)) ∙ ap (λ m. drop n bytes ++ m) (sym none))) h)
  where
    by_rest : (rest : List ℕ) → 0 < length rest → begins_with d.comment rest ≡ begins_with d.comment (rest ++ more)
    by_rest [] l = absurd (omega arith)
    by_rest (x ∷ xs) l = refl

mark_few : (p : ℕ) (bytes : List ℕ) → (mark_len p bytes ≤ 3) × (mark_len p bytes ≤ length bytes)
mark_few p bytes = by_test (p == 0 && bytes_eq (take 3 bytes) (0xef ∷ 0xbb ∷ 0xbf ∷ [])) refl
  where
    test : {b : Bool} → (p == 0 && bytes_eq (take 3 bytes) (0xef ∷ 0xbb ∷ 0xbf ∷ [])) ≡ b → mark_len p bytes ≡ cond b 3 0
    test e = let len : Bool → ℕ = λ b. cond b 3 0 in ap len e

    by_test : (b : Bool) → (p == 0 && bytes_eq (take 3 bytes) (0xef ∷ 0xbb ∷ 0xbf ∷ [])) ≡ b → (mark_len p bytes ≤ 3) × (mark_len p bytes ≤ length bytes)
    by_test false e = (omega (arith, test e), omega (arith, test e))
    by_test true e =
        let same : take 3 bytes ≡ 0xef ∷ 0xbb ∷ 0xbf ∷ [] = are_same (take 3 bytes) (0xef ∷ 0xbb ∷ 0xbf ∷ []) (and_right (p == 0) (bytes_eq (take 3 bytes) (0xef ∷ 0xbb ∷ 0xbf ∷ [])) e) in
        (omega (arith, test e), omega (arith, test e, ap length same, length-take 3 bytes))

pub opens_is : (d : Dialect) (v : View) (bytes : List ℕ) (place : ℕ) (o : Option Opening) → IsSound v → IsAhead v 4 bytes → place ≡ v.place → OpensAt d place bytes o → Opens d v (Ok o)
opens_is d v bytes place None s a e h = omega (arith, ap length h, a.enough (omega (arith, ap length h)))
opens_is d v bytes place (Some o) s a e h =
    let mark : o.mark ≡ mark_len v.place bytes = h.1 ∙ ap (λ p. mark_len p bytes) e in
    let few = mark_few v.place bytes in
    record {
      some = omega (arith, a.len, s.read, h.0);
      shown = omega (arith, mark, few.1, ap length a.bytes);
      few = omega (arith, mark, few.0);
      told = λ object holds.
          let more : List ℕ = drop (length bytes) (drop v.place object) in
          let cases = more_or_none v object bytes holds a in
          let whole : bytes ++ more ≡ drop v.place object = ap (λ l. l ++ more) (a.told object holds) ∙ take-append-drop (length bytes) (drop v.place object) in (
            mark ∙ mark_front v.place bytes more cases ∙ ap (mark_len v.place) whole,
            h.2 ∙ state_front d o.mark bytes more (omega (arith, mark, few.0)) cases ∙ ap (first_state d) (rest_is v object bytes o.mark (omega (arith, mark, few.1)) (a.told object holds)),
          );
    }

pub at_err : {A E : Type 0} (P : A → Type 0) (Q : E → Type 0) (r : Result A E) (e : E) → r ≡ Err e → MatchResult r P Q → Q e
at_err {A = A} {E = E} P Q r e is h = let M : Result A E → Type 0 = λ x. MatchResult x P Q in subst M is h
