-- Repetitions, bounded and not.
use Rattle.std.proofs.Common.{◌≡◌, ℕ, zero, suc, ◌||◌, ◌&&◌, ◌⊎◌, Bool, true, false, List, [], ◌∷◌, refl, inl, inr}
use Rattle.grammar_rules.specs.Rules.{Rule, Last, nothing, made, headed, bounded}
use Rattle.grammar_rules.specs.Readers.{Outcome, found, and_then, read_made, read_bounded}
use Rattle.grammar_rules.proofs.Lists.{or_left, or_right}
use Rattle.grammar_rules.proofs.Clear.{Sight, Clear}
use Rattle.grammar_rules.proofs.Alternatives.{cons_not_nil}
use Rattle.grammar_rules.proofs.Sequences.{sequence_sight, clear-sequence}
use Rattle.grammar_rules.proofs.Terminals.{nothing_sight, clear-nothing, clear-made, Sees, clear-wider}
use Rattle.grammar_rules.proofs.Right.{Right, right-nothing, right-made, right-sequence}
use Rattle.grammar_rules.proofs.Reading.{Exact, or_cases, and_first, and_second}
use Rattle.grammar_rules.proofs.Choices.{either_sight, clear-either, right-either}

-- the lookahead of up to n of a rule and then an end, and of the end alone
abbrev pub repeat_sight : {T : Type 0} → Sight T → Sight T → Sight T
repeat_sight s e = record {
  first = s.first;
  null = true;
  more = λ x. (s.first x || s.more x) || (e.first x || e.more x);
}

-- the same, also where n is 0
abbrev pub wide_sight : {T : Type 0} → Sight T → Sight T → Sight T
wide_sight s e = record {
  first = λ x. s.first x || e.first x;
  null = true;
  more = λ x. (s.first x || s.more x) || (e.first x || e.more x);
}

or_both : (a b c : Bool) → (a && b) ≡ false → (a && c) ≡ false → (a && (b || c)) ≡ false
or_both true b c e f = rw (e, f)
or_both false b c e f = refl

and_false : (b : Bool) → (b && false) ≡ false
and_false true = refl
and_false false = refl

module _ {T : Type 0} (s e : Sight T) (wants : s.null ≡ false) where
  pub headed_first : (x : T) → ((s.first x || (s.null && (wide_sight s e).first x)) || false) ≡ true → s.first x ≡ true
  headed_first x q =
      elim (or_cases (s.first x || (s.null && (wide_sight s e).first x)) false q) [
        | inl p ↦ elim (or_cases (s.first x) _ p) [
          | inl h ↦ h
          | inr h ↦ let k = and_first s.null ((wide_sight s e).first x) h in cc
        ]
        | inr p ↦ cc
      ]

  headed_more : (x : T) → ((wide_sight s e).more x ≡ true) ⊎ (s.more x ≡ true) → (wide_sight s e).more x ≡ true
  headed_more x (inl h) = h
  headed_more x (inr h) = or_left (s.first x || s.more x) _ (or_right (s.first x) (s.more x) h)

  either_more : (x : T) → ((((wide_sight s e).more x || (true && s.more x)) || false) || (((s.null && true) || true) && ((s.first x || (s.null && (wide_sight s e).first x)) || false))) ≡ true → (wide_sight s e).more x ≡ true
  either_more x q =
      elim (or_cases (((wide_sight s e).more x || (true && s.more x)) || false) _ q) [
        | inl p ↦ elim (or_cases ((wide_sight s e).more x || (true && s.more x)) false p) [
          | inl h ↦ headed_more x (or_cases ((wide_sight s e).more x) (s.more x) h)
          | inr h ↦ cc
        ]
        | inr p ↦ or_left (s.first x || s.more x) _ (or_left (s.first x) (s.more x) (headed_first x (and_second ((s.null && true) || true) _ p)))
      ]

  pub sees_repeat : Sees (either_sight (sequence_sight s (wide_sight s e)) nothing_sight) (repeat_sight s e)
  sees_repeat = record {
    first = headed_first;
    null = λ q. refl;
    more = either_more;
  }

module _ {T K A : Type 0} (G : Rule T K A) (s : Sight T) (end : Rule T K (List A)) (e : Sight T) (g : Clear G s) (h : Clear end e) (wants : s.null ≡ false) (loops : (x : T) → (s.more x && s.first x) ≡ false) (ends : (x : T) → (s.more x && e.first x) ≡ false) where
  headed_clear : (n : ℕ) → Clear (bounded n G end) (wide_sight s e) → Clear (headed G (bounded n G end)) (sequence_sight s (wide_sight s e))
  headed_clear n w =
      clear-sequence G (λ a. made (λ rest. a ∷ rest) (bounded n G end)) s (wide_sight s e) g
      (λ a. clear-made (λ rest. a ∷ rest) (bounded n G end) (wide_sight s e) w)
      (λ x. or_both (s.more x) (s.first x) (e.first x) (loops x) (ends x))

  clear_next : (n : ℕ) → Clear (bounded n G end) (wide_sight s e) → Clear (bounded (suc n) G end) (repeat_sight s e)
  clear_next n w =
      clear-wider (bounded (suc n) G end) (either_sight (sequence_sight s (wide_sight s e)) nothing_sight) (repeat_sight s e) (sees_repeat s e wants)
      (clear-either (headed G (bounded n G end)) (nothing []) (sequence_sight s (wide_sight s e)) nothing_sight
      (headed_clear n w) (clear-nothing []) (λ x. and_false _) (rw wants))

  pub clear_wide : (n : ℕ) → Clear (bounded n G end) (wide_sight s e)
  clear_wide zero =
      clear-wider end e (wide_sight s e)
      (record {
        first = λ x q. or_right (s.first x) (e.first x) q;
        null = λ q. refl;
        more = λ x q. or_right (s.first x || s.more x) _ (or_right (e.first x) (e.more x) q);
      }) h
  clear_wide (suc n) =
      clear-wider (bounded (suc n) G end) (repeat_sight s e) (wide_sight s e)
      (record {
        first = λ x q. or_left (s.first x) (e.first x) q;
        null = λ q. q;
        more = λ x q. q;
      }) (clear_next n (clear_wide n))

  -- the reader, where the rule's and the end's are right
  module _ (read : List T → Outcome T K A) (stop : List T → Outcome T K (List A)) (exact : Exact G s.first) (right : (ts : List T) → Right G ts (read ts)) (right_end : (ts : List T) → Right end ts (stop ts)) where
    headed_exact : (n : ℕ) → Exact (headed G (bounded n G end)) s.first
    headed_exact n t q = let f = exact t q in (f.0, inl f.1)

    headed_begins : (n : ℕ) (m : Last K) (t : T) (x : List T) → (headed G (bounded n G end)).Front m (t ∷ x) → s.first t ≡ true
    headed_begins n m t x f =
        let q = (headed_clear n (clear_wide n)).starts m t x f in
        headed_first s e wants t (rw q)

    headed_wants : (n : ℕ) (a : List A) → (headed G (bounded n G end)).Spells a [] → ⊥
    headed_wants n a w =
        let q = (headed_clear n (clear_wide n)).empty a w in
        let k = and_first s.null true q in cc

    pub right-bounded : (n : ℕ) (ts : List T) → Right (bounded n G end) ts (read_bounded n s.first read stop ts)
    right-bounded zero ts = right_end ts
    right-bounded (suc n) ts =
        right-either (headed G (bounded n G end)) (nothing []) s.first
        (headed_clear n (clear_wide n)).fronts (clear-nothing []).fronts
        (headed_begins n) (headed_exact n)
        (λ m t x q f. cons_not_nil [] t x f.1)
        (headed_wants n)
        ts
        (and_then (read ts) (λ a left. read_made (λ rest. a ∷ rest) (read_bounded n s.first read stop left)))
        (found [] ts)
        (right-sequence G (λ a. made (λ rest. a ∷ rest) (bounded n G end)) s (wide_sight s e) g
        (λ a. clear-made (λ rest. a ∷ rest) (bounded n G end) (wide_sight s e) (clear_wide n))
        (λ x. or_both (s.more x) (s.first x) (e.first x) (loops x) (ends x))
        ts (read ts) (right ts)
        (λ a left. read_made (λ rest. a ∷ rest) (read_bounded n s.first read stop left))
        (λ a left. right-made (λ rest. a ∷ rest) (bounded n G end) left (read_bounded n s.first read stop left) (right-bounded n left)))
        (right-nothing [] ts)
