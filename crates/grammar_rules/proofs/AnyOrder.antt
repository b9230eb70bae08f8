-- All members in any order, and the steps of a loop that reads them.
use Rattle.std.proofs.Common.{◌≡◌, ℕ, zero, suc, ◌+◌, ◌<◌, ◌||◌, ◌&&◌, Bool, true, false, List, [], ◌∷◌, ◌++◌, length, Option, is_some, refl, ap, inl, inr, append_assoc, append-nil, arith}
use Rattle.grammar_rules.specs.Rules.{Rule, Last, nothing, made, sequence, one_of_two, member, without, some_members, members, Within}
use Rattle.grammar_rules.specs.Readers.{Outcome, found, failed, and_then, read_made, starts, chosen, is_free, read_member, read_some_members, read_members}
use Rattle.grammar_rules.proofs.Lists.{or_left, or_right}
use Rattle.grammar_rules.proofs.Clear.{Sight, Clear}
use Rattle.grammar_rules.proofs.Alternatives.{cons_not_nil, Within_refl, clear-growing}
use Rattle.grammar_rules.proofs.Sequences.{Apart, sequence_sight, clear-sequence}
use Rattle.grammar_rules.proofs.Terminals.{nothing_sight, clear-nothing, clear-made, Sees, clear-wider}
use Rattle.grammar_rules.proofs.Right.{Right, right-nothing, right-made, right-sequence}
use Rattle.grammar_rules.proofs.Reading.{Exact, Reads, or_cases}
use Rattle.grammar_rules.proofs.Choices.{either_sight, clear-either, right-either}
use Rattle.grammar_rules.proofs.Families.{right-growing}
use Rattle.grammar_rules.proofs.Depths.{within-member, within-either, within-sequence, within-made}
use Rattle.grammar_rules.proofs.Many.{Shrinks}
use Rattle.grammar_rules.proofs.Members.{Named, member_sight, members_sight, any_sight, is_free-some, clear-member, exact-member, right-member, shrinks-member}

and_false : (b : Bool) → (b && false) ≡ false
and_false true = refl
and_false false = refl

or_false : (b : Bool) → (b || false) ≡ true → b ≡ true
or_false true e = refl
or_false false e = e

module _ {T I : Type 0} (which : T → Option I) (tail : T → Bool) (free : I → Bool) where
  more_members : (x : T) → (((is_some (which x) || tail x) || tail x) || false) ≡ true → (is_some (which x) || tail x) ≡ true
  more_members x e =
      elim (or_cases (is_some (which x) || tail x) (tail x) (or_false _ e)) [
        | inl h ↦ h
        | inr h ↦ or_right (is_some (which x)) (tail x) h
      ]

  first_members : (x : T) → ((is_free free (which x) || false) || false) ≡ true → is_free free (which x) ≡ true
  first_members x e = or_false _ (or_false _ e)

  all_more : (x : T) → ((((is_some (which x) || tail x) || (true && tail x)) || false) || (((false && true) || true) && ((is_free free (which x) || (false && is_some (which x))) || false))) ≡ true → (is_some (which x) || tail x) ≡ true
  all_more x e =
      elim (or_cases (((is_some (which x) || tail x) || tail x) || false) _ e) [
        | inl h ↦ more_members x h
        | inr h ↦ or_left (is_some (which x)) (tail x) (is_free-some free (which x) (first_members x h))
      ]

  sees_members : Sees (either_sight (sequence_sight (member_sight which tail free) (any_sight which tail)) nothing_sight) (members_sight which tail free)
  sees_members = record {
    first = first_members;
    null = λ e. refl;
    more = all_more;
  }

  sees_any : Sees (members_sight which tail free) (any_sight which tail)
  sees_any = record {
    first = λ x e. is_free-some free (which x) e;
    null = λ e. refl;
    more = λ x e. e;
  }

module _ {T K A I : Type 0} (same : I → I → Bool) (G : I → Rule T K A) where
  -- one member more says no less
  members_grow : (n : ℕ) (free : I → Bool) → Within (some_members same G n free) (some_members same G (suc n) free)
  members_grow zero free = within-member (one_of_two (sequence (member G free) (λ m. made (λ rest. m ∷ rest) (nothing []))) (nothing [])) false
  members_grow (suc n) free =
      within-either
      (sequence (member G free) (λ m. made (λ rest. m ∷ rest) (some_members same G n (without same m.0 free))))
      (sequence (member G free) (λ m. made (λ rest. m ∷ rest) (some_members same G (suc n) (without same m.0 free))))
      (nothing []) (nothing [])
      (within-sequence (member G free) (member G free)
      (λ m. made (λ rest. m ∷ rest) (some_members same G n (without same m.0 free)))
      (λ m. made (λ rest. m ∷ rest) (some_members same G (suc n) (without same m.0 free)))
      (Within_refl (member G free))
      (λ m. within-made (λ rest. m ∷ rest) (some_members same G n (without same m.0 free)) (some_members same G (suc n) (without same m.0 free)) (members_grow n (without same m.0 free))))
      (Within_refl (nothing []))

module _ {T K A I : Type 0} (same : I → I → Bool) (G : I → Rule T K A) (each : I → Sight T) (which : T → Option I) (tail : T → Bool) (named : Named each which tail) (g : (i : I) → Clear (G i) (each i)) where
  off : (free : I → Bool) → Apart (member_sight which tail free) (any_sight which tail)
  off free x = named.apart x

  clear_headed : (n : ℕ) (free : I → Bool) → ((f : I → Bool) → Clear (some_members same G n f) (any_sight which tail)) → Clear (sequence (member G free) (λ m. made (λ rest. m ∷ rest) (some_members same G n (without same m.0 free)))) (sequence_sight (member_sight which tail free) (any_sight which tail))
  clear_headed n free rec =
      clear-sequence (member G free) (λ m. made (λ rest. m ∷ rest) (some_members same G n (without same m.0 free))) (member_sight which tail free) (any_sight which tail)
      (clear-member G each which tail named g free)
      (λ m. clear-made (λ rest. m ∷ rest) (some_members same G n (without same m.0 free)) (any_sight which tail) (rec (without same m.0 free)))
      (off free)

  clear_some : (n : ℕ) (free : I → Bool) → Clear (some_members same G n free) (members_sight which tail free)
  clear_some zero free =
      clear-wider (nothing []) nothing_sight (members_sight which tail free)
      (record { first = λ x e. cc; null = λ e. refl; more = λ x e. cc }) (clear-nothing [])
  clear_some (suc n) free =
      clear-wider (some_members same G (suc n) free) (either_sight (sequence_sight (member_sight which tail free) (any_sight which tail)) nothing_sight) (members_sight which tail free) (sees_members which tail free)
      (clear-either (sequence (member G free) (λ m. made (λ rest. m ∷ rest) (some_members same G n (without same m.0 free)))) (nothing [])
      (sequence_sight (member_sight which tail free) (any_sight which tail)) nothing_sight
      (clear_headed n free (λ f. clear-wider (some_members same G n f) (members_sight which tail f) (any_sight which tail) (sees_any which tail f) (clear_some n f)))
      (clear-nothing []) (λ x. and_false _) refl)

  clear_any : (n : ℕ) (free : I → Bool) → Clear (some_members same G n free) (any_sight which tail)
  clear_any n free = clear-wider (some_members same G n free) (members_sight which tail free) (any_sight which tail) (sees_any which tail free) (clear_some n free)

  pub clear-members : (free : I → Bool) → Clear (members same G free) (members_sight which tail free)
  clear-members free = clear-growing (λ n. some_members same G n free) (λ n. members_grow same G n free) (members_sight which tail free) (λ n. clear_some n free)

  module _ (read : I → List T → Outcome T K A) (exact : (i : I) → Exact (G i) (each i).first) (right : (i : I) (ts : List T) → Right (G i) ts (read i ts)) where
    headed_begins : (n : ℕ) (free : I → Bool) (m : Last K) (t : T) (x : List T) → (sequence (member G free) (λ m. made (λ rest. m ∷ rest) (some_members same G n (without same m.0 free)))).Front m (t ∷ x) → is_free free (which t) ≡ true
    headed_begins n free m t x f = or_false _ ((clear_headed n free (clear_any n)).starts m t x f)

    right_some : (n : ℕ) (free : I → Bool) (ts : List T) → Right (some_members same G n free) ts (read_some_members same which read n free ts)
    right_some zero free ts = right-nothing [] ts
    right_some (suc n) free ts =
        right-either (sequence (member G free) (λ m. made (λ rest. m ∷ rest) (some_members same G n (without same m.0 free)))) (nothing [])
        (λ t. is_free free (which t))
        (clear_headed n free (clear_any n)).fronts (clear-nothing []).fronts
        (headed_begins n free)
        (λ t e. let f = exact-member G each which tail named g read exact right free t e in (f.0, inl f.1))
        (λ m t x e f. cons_not_nil [] t x f.1)
        (λ a w. let q = (clear_headed n free (clear_any n)).empty a w in cc)
        ts
        (and_then (read_member which read free ts) (λ m left. read_made (λ rest. m ∷ rest) (read_some_members same which read n (without same m.0 free) left)))
        (found [] ts)
        (right-sequence (member G free) (λ m. made (λ rest. m ∷ rest) (some_members same G n (without same m.0 free))) (member_sight which tail free) (any_sight which tail)
        (clear-member G each which tail named g free)
        (λ m. clear-made (λ rest. m ∷ rest) (some_members same G n (without same m.0 free)) (any_sight which tail) (clear_any n (without same m.0 free)))
        (off free)
        ts (read_member which read free ts) (right-member G each which tail named g read exact right free ts)
        (λ m left. read_made (λ rest. m ∷ rest) (read_some_members same which read n (without same m.0 free) left))
        (λ m left. right-made (λ rest. m ∷ rest) (some_members same G n (without same m.0 free)) left (read_some_members same which read n (without same m.0 free) left) (right_some n (without same m.0 free) left)))
        (right-nothing [] ts)

module _ {T K A I : Type 0} (same : I → I → Bool) (which : T → Option I) (read : I → List T → Outcome T K A) (less : (free : I → Bool) → Shrinks (read_member which read free)) where
  stable_step : (n m : ℕ) (free : I → Bool) (ts : List T) (o : Outcome T K (I × A)) → read_member which read free ts ≡ o
      → ((f : I → Bool) (left : List T) → length left < length ts → read_some_members same which read n f left ≡ read_some_members same which read m f left)
      → and_then o (λ a left. read_made (λ rest. a ∷ rest) (read_some_members same which read n (without same a.0 free) left)) ≡ and_then o (λ a left. read_made (λ rest. a ∷ rest) (read_some_members same which read m (without same a.0 free) left))
  stable_step n m free ts (found a left) e rec = ap (read_made (λ rest. a ∷ rest)) (rec (without same a.0 free) left (less free ts a left e))
  stable_step n m free ts (failed k left) e rec = refl

  -- beyond the symbols that are there the bound doesn't matter
  pub stable_members : (n m : ℕ) (free : I → Bool) (ts : List T) → length ts < n → length ts < m → read_some_members same which read n free ts ≡ read_some_members same which read m free ts
  stable_members zero m free ts p q = absurd (omega arith)
  stable_members (suc n) zero free ts p q = absurd (omega arith)
  stable_members (suc n) (suc m) free ts p q =
      ap (λ o. chosen (starts (λ t. is_free free (which t)) ts) o (found [] ts))
      (stable_step n m free ts (read_member which read free ts) refl (λ f left l. stable_members n m f left (omega arith) (omega arith)))

  unrolled_step : (free : I → Bool) (ts : List T) (o : Outcome T K (I × A)) → read_member which read free ts ≡ o
      → and_then o (λ a left. read_made (λ rest. a ∷ rest) (read_some_members same which read (length ts) (without same a.0 free) left)) ≡ and_then o (λ a left. read_made (λ rest. a ∷ rest) (read_members same which read (without same a.0 free) left))
  unfolding read_members
  unrolled_step free ts (found a left) e =
      ap (read_made (λ rest. a ∷ rest)) (stable_members (length ts) (suc (length left)) (without same a.0 free) left (less free ts a left e) (omega arith))
  unrolled_step free ts (failed k left) e = refl

  -- the members are nothing, or one and then the others
  pub read_members-unrolled : (free : I → Bool) (ts : List T) → read_members same which read free ts ≡ chosen (starts (λ t. is_free free (which t)) ts) (and_then (read_member which read free ts) (λ a left. read_made (λ rest. a ∷ rest) (read_members same which read (without same a.0 free) left))) (found [] ts)
  unfolding read_members
  read_members-unrolled free ts = ap (λ o. chosen (starts (λ t. is_free free (which t)) ts) o (found [] ts)) (unrolled_step free ts (read_member which read free ts) refl)

  joined_members : (xs ys : List (I × A)) (o : Outcome T K (List (I × A))) → read_made (λ rest. xs ++ rest) (read_made (λ rest. ys ++ rest) o) ≡ read_made (λ rest. (xs ++ ys) ++ rest) o
  joined_members xs ys (found zs left) = rw append_assoc
  joined_members xs ys (failed k left) = refl

  -- the steps of a loop that has read `so_far`: one more, the end, and a failure
  pub members_step : (free : I → Bool) (so_far : List (I × A)) (ts : List T) (a : I × A) (left : List T) → starts (λ t. is_free free (which t)) ts ≡ true → read_member which read free ts ≡ found a left
      → read_made (λ rest. so_far ++ rest) (read_members same which read free ts) ≡ read_made (λ rest. (so_far ++ a ∷ []) ++ rest) (read_members same which read (without same a.0 free) left)
  members_step free so_far ts a left e f =
      rw (read_members-unrolled free ts, e, f) (joined_members so_far (a ∷ []) (read_members same which read (without same a.0 free) left))

  pub members_stop : (free : I → Bool) (so_far : List (I × A)) (ts : List T) → starts (λ t. is_free free (which t)) ts ≡ false → read_made (λ rest. so_far ++ rest) (read_members same which read free ts) ≡ found so_far ts
  members_stop free so_far ts e = rw (read_members-unrolled free ts, e, append-nil)

  pub members_fail : (free : I → Bool) (so_far : List (I × A)) (ts : List T) (k : Option K) (left : List T) → starts (λ t. is_free free (which t)) ts ≡ true → read_member which read free ts ≡ failed k left
      → read_made (λ rest. so_far ++ rest) (read_members same which read free ts) ≡ failed k left
  members_fail free so_far ts k left e f = rw (read_members-unrolled free ts, e, f)

module _ {T K A I : Type 0} (same : I → I → Bool) (G : I → Rule T K A) (each : I → Sight T) (which : T → Option I) (tail : T → Bool) (named : Named each which tail) (read : I → List T → Outcome T K A) (g : (i : I) → Reads (G i) (each i) (read i)) where
  pub less_member : (free : I → Bool) → Shrinks (read_member which read free)
  less_member = shrinks-member G each which tail named (λ i. (g i).clear) read (λ i. (g i).exact) (λ i. (g i).right)

  right_members : (free : I → Bool) (ts : List T) → Right (members same G free) ts (read_members same which read free ts)
  unfolding read_members
  right_members free ts =
      right-growing (λ n. some_members same G n free) (λ n. members_grow same G n free) ts (suc (length ts)) (read_members same which read free ts)
      (λ k. rw (stable_members same which read less_member (suc (length ts)) (suc (length ts) + k) free ts (omega arith) (omega arith))
      (right_some same G each which tail named (λ i. (g i).clear) read (λ i. (g i).exact) (λ i. (g i).right) (suc (length ts) + k) free ts))

  pub reads-members : (free : I → Bool) → Reads (members same G free) (members_sight which tail free) (read_members same which read free)
  reads-members free = record {
    clear = clear-members same G each which tail named (λ i. (g i).clear) free;
    exact = λ t e.
        let f = exact-member G each which tail named (λ i. (g i).clear) read (λ i. (g i).exact) (λ i. (g i).right) free t e in
        (f.0, inr (1, inr (true, inl f.1)));
    empty = λ e. ([], (0, (refl, refl)));
    right = right_members free;
  }
