-- A repetition without a bound, and the steps of a loop that reads it.
use Rattle.std.proofs.Common.{◌≡◌, ℕ, zero, suc, ◌+◌, ◌<◌, ◌||◌, ◌&&◌, Bool, true, false, List, [], ◌∷◌, ◌++◌, length, Option, refl, ap, subst, inl, inr, append_assoc, append-nil, arith, length-append}
use Rattle.grammar_rules.specs.Rules.{Rule, nothing, bounded, many}
use Rattle.grammar_rules.specs.Readers.{Outcome, found, failed, and_then, read_made, starts, chosen, read_bounded, read_many}
use Rattle.grammar_rules.proofs.Clear.{Sight, Clear}
use Rattle.grammar_rules.proofs.Alternatives.{clear-growing}
use Rattle.grammar_rules.proofs.Terminals.{nothing_sight, clear-nothing, clear-wider}
use Rattle.grammar_rules.proofs.Right.{FoundAt, Right, right-nothing}
use Rattle.grammar_rules.proofs.Reading.{Reads}
use Rattle.grammar_rules.proofs.Repetitions.{wide_sight, clear_wide, right-bounded}
use Rattle.grammar_rules.proofs.Families.{right-growing}
use Rattle.grammar_rules.proofs.Depths.{bounded_grows}

-- the reader leaves less than it was given where it finds a value
abbrev pub Shrinks : {T K A : Type 0} → (List T → Outcome T K A) → Type 0
Shrinks {T = T} {A = A} read = (ts : List T) (a : A) (left : List T) → read ts ≡ found a left → length left < length ts

shrinks_pre : {T K A : Type 0} (G : Rule T K A) (s : Sight T) → Clear G s → s.null ≡ false → (a : A) (pre left ts : List T) → G.Spells a pre → ts ≡ pre ++ left → length left < length ts
shrinks_pre G s g wants a [] left ts w e = let q = g.empty a w in cc
shrinks_pre G s g wants a (t ∷ pre) left ts w e = rw e (omega (arith, length-append pre left))

pub shrinks : {T K A : Type 0} (G : Rule T K A) (s : Sight T) (read : List T → Outcome T K A) → Reads G s read → s.null ≡ false → Shrinks read
shrinks G s read g wants ts a left e =
    let w : FoundAt G ts a left = subst (λ o. Right G ts o) e (g.right ts) in
    shrinks_pre G s g.clear wants a w.pre left ts w.spells w.is

module _ {T K A : Type 0} (test : T → Bool) (read : List T → Outcome T K A) (less : Shrinks read) where
  stable_step : (stop : List T → Outcome T K (List A)) (n m : ℕ) (ts : List T) (o : Outcome T K A) → read ts ≡ o
      → ((left : List T) → length left < length ts → read_bounded n test read stop left ≡ read_bounded m test read stop left)
      → and_then o (λ a left. read_made (λ rest. a ∷ rest) (read_bounded n test read stop left)) ≡ and_then o (λ a left. read_made (λ rest. a ∷ rest) (read_bounded m test read stop left))
  stable_step stop n m ts (found a left) e rec = ap (read_made (λ rest. a ∷ rest)) (rec left (less ts a left e))
  stable_step stop n m ts (failed k left) e rec = refl

  -- beyond the symbols that are there the bound doesn't matter
  pub stable : (stop : List T → Outcome T K (List A)) (n m : ℕ) (ts : List T) → length ts < n → length ts < m → read_bounded n test read stop ts ≡ read_bounded m test read stop ts
  stable stop zero m ts p q = absurd (omega arith)
  stable stop (suc n) zero ts p q = absurd (omega arith)
  stable stop (suc n) (suc m) ts p q =
      ap (λ o. chosen (starts test ts) o (found [] ts))
      (stable_step stop n m ts (read ts) refl (λ left l. stable stop n m left (omega arith) (omega arith)))

  unrolled_step : (ts : List T) (o : Outcome T K A) → read ts ≡ o
      → and_then o (λ a left. read_made (λ rest. a ∷ rest) (read_bounded (length ts) test read (λ rest. found [] rest) left)) ≡ and_then o (λ a left. read_made (λ rest. a ∷ rest) (read_many test read left))
  unfolding read_many
  unrolled_step ts (found a left) e =
      ap (read_made (λ rest. a ∷ rest)) (stable (λ rest. found [] rest) (length ts) (suc (length left)) left (less ts a left e) (omega arith))
  unrolled_step ts (failed k left) e = refl

  -- a repetition is nothing, or one more and then the repetition
  pub read_many-unrolled : (ts : List T) → read_many test read ts ≡ chosen (starts test ts) (and_then (read ts) (λ a left. read_made (λ rest. a ∷ rest) (read_many test read left))) (found [] ts)
  unfolding read_many
  read_many-unrolled ts = ap (λ o. chosen (starts test ts) o (found [] ts)) (unrolled_step ts (read ts) refl)

  joined_twice : (xs ys : List A) (o : Outcome T K (List A)) → read_made (λ rest. xs ++ rest) (read_made (λ rest. ys ++ rest) o) ≡ read_made (λ rest. (xs ++ ys) ++ rest) o
  joined_twice xs ys (found zs left) = rw append_assoc
  joined_twice xs ys (failed k left) = refl

  -- the steps of a loop that has read the list `so_far`: one more, the end, and a failure
  pub many_step : (so_far : List A) (ts : List T) (a : A) (left : List T) → starts test ts ≡ true → read ts ≡ found a left
      → read_made (λ rest. so_far ++ rest) (read_many test read ts) ≡ read_made (λ rest. (so_far ++ a ∷ []) ++ rest) (read_many test read left)
  many_step so_far ts a left e f =
      rw (read_many-unrolled ts, e, f) (joined_twice so_far (a ∷ []) (read_many test read left))

  pub many_stop : (so_far : List A) (ts : List T) → starts test ts ≡ false → read_made (λ rest. so_far ++ rest) (read_many test read ts) ≡ found so_far ts
  many_stop so_far ts e = rw (read_many-unrolled ts, e, append-nil)

  pub many_fail : (so_far : List A) (ts : List T) (k : Option K) (left : List T) → starts test ts ≡ true → read ts ≡ failed k left
      → read_made (λ rest. so_far ++ rest) (read_many test read ts) ≡ failed k left
  many_fail so_far ts k left e f = rw (read_many-unrolled ts, e, f)

-- the lookahead of a repetition
abbrev pub many_sight : {T : Type 0} → Sight T → Sight T
many_sight s = record { first = s.first; null = true; more = λ x. s.first x || s.more x }

or_false : (b : Bool) → (b || false) ≡ true → b ≡ true
or_false true e = refl
or_false false e = e

module _ {T K A : Type 0} (G : Rule T K A) (s : Sight T) (read : List T → Outcome T K A) (g : Reads G s read) (wants : s.null ≡ false) (loops : (x : T) → (s.more x && s.first x) ≡ false) where
  no_first : (x : T) → (s.more x && false) ≡ false
  no_first x = elim (s.more x) as (λ b. (b && false) ≡ false) [ true ↦ refl | false ↦ refl ]

  clear_many : Clear (many G) (many_sight s)
  clear_many =
      clear-wider (many G) (wide_sight s nothing_sight) (many_sight s)
      (record {
        first = λ x e. or_false (s.first x) e;
        null = λ e. refl;
        more = λ x e. or_false (s.first x || s.more x) e;
      })
      (clear-growing (λ n. bounded n G (nothing [])) (bounded_grows G) (wide_sight s nothing_sight)
      (λ n. clear_wide G s (nothing []) nothing_sight g.clear (clear-nothing []) wants loops no_first n))

  right_many : (ts : List T) → Right (many G) ts (read_many s.first read ts)
  unfolding read_many
  right_many ts =
      right-growing (λ n. bounded n G (nothing [])) (bounded_grows G) ts (suc (length ts)) (read_many s.first read ts)
      (λ k. rw (stable s.first read (shrinks G s read g wants) (λ rest. found [] rest) (suc (length ts)) (suc (length ts) + k) ts (omega arith) (omega arith))
      (right-bounded G s (nothing []) nothing_sight g.clear (clear-nothing []) wants loops no_first read (λ rest. found [] rest) g.exact g.right (λ rest. right-nothing [] rest) (suc (length ts) + k) ts))

  pub reads-many : Reads (many G) (many_sight s) (read_many s.first read)
  reads-many = record {
    clear = clear_many;
    exact = λ t e. let f = g.exact t e in (f.0, inr (1, inr (true, inl f.1)));
    empty = λ e. ([], (0, (refl, refl)));
    right = right_many;
  }
