-- A repetition that hands a count on, and the steps of a loop that reads it.
use Rattle.std.proofs.Common.{◌≡◌, ℕ, zero, suc, ◌+◌, ◌<◌, ◌||◌, ◌&&◌, Bool, true, false, List, [], ◌∷◌, ◌++◌, length, Option, is_some, refl, ap, inl, inr, append_assoc, append-nil, arith}
use Rattle.grammar_rules.specs.Rules.{Last, nothing, made, sequence, one_of_two, Within}
use Rattle.grammar_rules.specs.Readers.{Outcome, found, failed, and_then, read_made, starts, chosen}
use Rattle.grammar_rules.specs.Counted.{Counted, both, past, joined_to, bounded_from, many_from, chain, item, list_of}
use Rattle.grammar_rules.specs.CountedReaders.{CountedReader, read_both, read_counted_past, read_bounded_from, read_many_from, read_chain, read_links, read_item, read_list_of}
use Rattle.grammar_rules.proofs.Clear.{Sight, Clear}
use Rattle.grammar_rules.proofs.Alternatives.{cons_not_nil, Within_refl, clear-growing}
use Rattle.grammar_rules.proofs.Sequences.{Apart, sequence_sight, clear-sequence}
use Rattle.grammar_rules.proofs.Terminals.{nothing_sight, clear-nothing, clear-made, clear-wider}
use Rattle.grammar_rules.proofs.Right.{Right, right-nothing, right-made, right-sequence}
use Rattle.grammar_rules.proofs.Reading.{Exact, and_first, past_sight, then_sight, reads_then, reads-made}
use Rattle.grammar_rules.proofs.Choices.{either_sight, clear-either, right-either}
use Rattle.grammar_rules.proofs.Repetitions.{wide_sight, sees_repeat, headed_first}
use Rattle.grammar_rules.proofs.Families.{right-growing}
use Rattle.grammar_rules.proofs.Depths.{within-made, within-sequence, within-member, within-either}
use Rattle.grammar_rules.proofs.Many.{Shrinks, shrinks, many_sight}
use Rattle.grammar_rules.proofs.Counts.{CountedReads, reads-given, reads-both, reads-counted_past, reads-item}

-- one more, and then up to k times
abbrev one_and : {S T K A : Type 0} → ℕ → Counted S T K A → Counted S T K (List A)
one_and k G n = sequence (G n) (λ p. made (joined_to p.0) (bounded_from k G p.1))

-- one repetition more says no less
from_grows : {S T K A : Type 0} (G : Counted S T K A) (k : ℕ) (n : S) → Within (bounded_from k G n) (bounded_from (suc k) G n)
from_grows G zero n = within-member (one_of_two (one_and zero G n) (nothing ([], n))) false
from_grows G (suc k) n =
    within-either (one_and k G n) (one_and (suc k) G n) (nothing ([], n)) (nothing ([], n))
    (within-sequence (G n) (G n) (λ p. made (joined_to p.0) (bounded_from k G p.1)) (λ p. made (joined_to p.0) (bounded_from (suc k) G p.1)) (Within_refl (G n))
    (λ p. within-made (joined_to p.0) (bounded_from k G p.1) (bounded_from (suc k) G p.1) (from_grows G k p.1)))
    (Within_refl (nothing ([], n)))

or_false : (b : Bool) → (b || false) ≡ true → b ≡ true
or_false true e = refl
or_false false e = e

and_false : (b : Bool) → (b && false) ≡ false
and_false true = refl
and_false false = refl

or_same : (a b : Bool) → (a && b) ≡ false → (a && (b || false)) ≡ false
or_same true true e = e
or_same true false e = refl
or_same false b e = refl

module _ {S T K A : Type 0} (G : Counted S T K A) (s : Sight T) (g : (n : S) → Clear (G n) s) (wants : s.null ≡ false) (loops : (x : T) → (s.more x && s.first x) ≡ false) where
  off_next : Apart s (wide_sight s nothing_sight)
  off_next x = or_same (s.more x) (s.first x) (loops x)

  one_clear : (k : ℕ) → ((n : S) → Clear (bounded_from k G n) (wide_sight s nothing_sight)) → (n : S) → Clear (one_and k G n) (sequence_sight s (wide_sight s nothing_sight))
  one_clear k w n =
      clear-sequence (G n) (λ p. made (joined_to p.0) (bounded_from k G p.1)) s (wide_sight s nothing_sight) (g n)
      (λ p. clear-made (joined_to p.0) (bounded_from k G p.1) (wide_sight s nothing_sight) (w p.1)) off_next

  clear_from : (k : ℕ) (n : S) → Clear (bounded_from k G n) (wide_sight s nothing_sight)
  clear_from zero n =
      clear-wider (nothing ([], n)) nothing_sight (wide_sight s nothing_sight)
      (record { first = λ x q. cc; null = λ q. refl; more = λ x q. cc }) (clear-nothing ([], n))
  clear_from (suc k) n =
      let w = sees_repeat s nothing_sight wants in
      clear-wider (bounded_from (suc k) G n) (either_sight (sequence_sight s (wide_sight s nothing_sight)) nothing_sight) (wide_sight s nothing_sight)
      (record { first = λ x q. rw (w.first x q) refl; null = λ q. refl; more = w.more })
      (clear-either (one_and k G n) (nothing ([], n)) (sequence_sight s (wide_sight s nothing_sight)) nothing_sight
      (one_clear k (clear_from k) n) (clear-nothing ([], n)) (λ x. and_false _) (rw wants))

  module _ (read : CountedReader S T K A) (exact : (n : S) → Exact (G n) s.first) (right : (n : S) (ts : List T) → Right (G n) ts (read n ts)) where
    one_begins : (k : ℕ) (n : S) (m : Last K) (t : T) (x : List T) → (one_and k G n).Front m (t ∷ x) → s.first t ≡ true
    one_begins k n m t x f =
        let q = (one_clear k (clear_from k) n).starts m t x f in
        headed_first s nothing_sight wants t (rw q)

    one_wants : (k : ℕ) (n : S) (a : List A × S) → (one_and k G n).Spells a [] → ⊥
    one_wants k n a w =
        let q = (one_clear k (clear_from k) n).empty a w in
        let e = and_first s.null true q in cc

    right_from : (k : ℕ) (n : S) (ts : List T) → Right (bounded_from k G n) ts (read_bounded_from k s.first read n ts)
    right_from zero n ts = right-nothing ([], n) ts
    right_from (suc k) n ts =
        right-either (one_and k G n) (nothing ([], n)) s.first
        (one_clear k (clear_from k) n).fronts (clear-nothing ([], n)).fronts
        (one_begins k n) (λ t q. let f = exact n t q in (f.0, inl f.1))
        (λ m t x q f. cons_not_nil [] t x f.1)
        (one_wants k n)
        ts
        (and_then (read n ts) (λ p left. read_made (joined_to p.0) (read_bounded_from k s.first read p.1 left)))
        (found ([], n) ts)
        (right-sequence (G n) (λ p. made (joined_to p.0) (bounded_from k G p.1)) s (wide_sight s nothing_sight) (g n)
        (λ p. clear-made (joined_to p.0) (bounded_from k G p.1) (wide_sight s nothing_sight) (clear_from k p.1))
        off_next
        ts (read n ts) (right n ts)
        (λ p left. read_made (joined_to p.0) (read_bounded_from k s.first read p.1 left))
        (λ p left. right-made (joined_to p.0) (bounded_from k G p.1) left (read_bounded_from k s.first read p.1 left) (right_from k p.1 left)))
        (right-nothing ([], n) ts)

-- the reader leaves less than it was given where it finds a value, from each count
abbrev pub CountedShrinks : {S T K A : Type 0} → CountedReader S T K A → Type 0
CountedShrinks {S = S} read = (n : S) → Shrinks (read n)

pub counted_shrinks : {S T K A : Type 0} (G : Counted S T K A) (s : Sight T) (read : CountedReader S T K A) → CountedReads G s read → s.null ≡ false → CountedShrinks read
counted_shrinks G s read g wants n = shrinks (G n) s (read n) (g n) wants

module _ {S T K A : Type 0} (test : T → Bool) (read : CountedReader S T K A) (less : CountedShrinks read) where
  stable_step : (k m : ℕ) (n : S) (ts : List T) (o : Outcome T K (A × S)) → read n ts ≡ o
      → ((p : S) (left : List T) → length left < length ts → read_bounded_from k test read p left ≡ read_bounded_from m test read p left)
      → and_then o (λ p left. read_made (joined_to p.0) (read_bounded_from k test read p.1 left)) ≡ and_then o (λ p left. read_made (joined_to p.0) (read_bounded_from m test read p.1 left))
  stable_step k m n ts (found p left) e rec = ap (read_made (joined_to p.0)) (rec p.1 left (less n ts p left e))
  stable_step k m n ts (failed j left) e rec = refl

  -- beyond the symbols that are there the bound doesn't matter
  stable : (k m : ℕ) (n : S) (ts : List T) → length ts < k → length ts < m → read_bounded_from k test read n ts ≡ read_bounded_from m test read n ts
  stable zero m n ts p q = absurd (omega arith)
  stable (suc k) zero n ts p q = absurd (omega arith)
  stable (suc k) (suc m) n ts p q =
      ap (λ o. chosen (starts test ts) o (found ([], n) ts))
      (stable_step k m n ts (read n ts) refl (λ c left l. stable k m c left (omega arith) (omega arith)))

  unrolled_step : (n : S) (ts : List T) (o : Outcome T K (A × S)) → read n ts ≡ o
      → and_then o (λ p left. read_made (joined_to p.0) (read_bounded_from (length ts) test read p.1 left)) ≡ and_then o (λ p left. read_made (joined_to p.0) (read_many_from test read p.1 left))
  unfolding read_many_from
  unrolled_step n ts (found p left) e =
      ap (read_made (joined_to p.0)) (stable (length ts) (suc (length left)) p.1 left (less n ts p left e) (omega arith))
  unrolled_step n ts (failed j left) e = refl

  -- a repetition is nothing, or one more and then the repetition
  pub read_many_from-unrolled : (n : S) (ts : List T) → read_many_from test read n ts ≡ chosen (starts test ts) (and_then (read n ts) (λ p left. read_made (joined_to p.0) (read_many_from test read p.1 left))) (found ([], n) ts)
  unfolding read_many_from
  read_many_from-unrolled n ts = ap (λ o. chosen (starts test ts) o (found ([], n) ts)) (unrolled_step n ts (read n ts) refl)

module _ {S T K A : Type 0} (G : Counted S T K A) (s : Sight T) (read : CountedReader S T K A) (g : CountedReads G s read) (wants : s.null ≡ false) (loops : (x : T) → (s.more x && s.first x) ≡ false) where
  clear_many_from : (n : S) → Clear (many_from G n) (many_sight s)
  clear_many_from n =
      clear-wider (many_from G n) (wide_sight s nothing_sight) (many_sight s)
      (record {
        first = λ x e. or_false (s.first x) e;
        null = λ e. refl;
        more = λ x e. or_false (s.first x || s.more x) e;
      })
      (clear-growing (λ k. bounded_from k G n) (λ k. from_grows G k n) (wide_sight s nothing_sight)
      (λ k. clear_from G s (λ m. (g m).clear) wants loops k n))

  right_many_from : (n : S) (ts : List T) → Right (many_from G n) ts (read_many_from s.first read n ts)
  unfolding read_many_from
  right_many_from n ts =
      right-growing (λ k. bounded_from k G n) (λ k. from_grows G k n) ts (suc (length ts)) (read_many_from s.first read n ts)
      (λ k. rw (stable s.first read (counted_shrinks G s read g wants) (suc (length ts)) (suc (length ts) + k) n ts (omega arith) (omega arith))
      (right_from G s (λ m. (g m).clear) wants loops read (λ m. (g m).exact) (λ m. (g m).right) (suc (length ts) + k) n ts))

  pub reads-many_from : CountedReads (many_from G) (many_sight s) (read_many_from s.first read)
  reads-many_from n = record {
    clear = clear_many_from n;
    exact = λ t e. let f = (g n).exact t e in (f.0, inr (1, inr (true, inl f.1)));
    empty = λ e. (([], n), (0, (refl, refl)));
    right = right_many_from n;
  }

-- ---- chains: what every loop of a reader is

-- the lookahead of a list with separators
abbrev pub list_sight : {T : Type 0} → Sight T → (T → Bool) → Sight T
list_sight s separates = then_sight s (many_sight (past_sight separates s))

module _ {S T K A B C : Type 0} (node : A → List B → C) (G : Counted S T K A) (H : Counted S T K B) (s t : Sight T) (first : CountedReader S T K A) (part : CountedReader S T K B) (g : CountedReads G s first) (h : CountedReads H t part) (wants : t.null ≡ false) (loops : (x : T) → (t.more x && t.first x) ≡ false) (off : Apart s (many_sight t)) where
  pub reads-chain : CountedReads (chain node G H) (sequence_sight s (many_sight t)) (read_chain node t.first first part)
  unfolding read_chain
  reads-chain =
      reads-given (λ p. node p.0 p.1) (both G (many_from H)) (sequence_sight s (many_sight t)) (read_both first (read_many_from t.first part))
      (reads-both G (many_from H) s (many_sight t) first (read_many_from t.first part) g (reads-many_from H t part h wants loops) off)

-- a list with separators and a limit
module _ {S T K A : Type 0} (limit : ℕ) (over : T → Option K) (separates : T → Bool) (G : Counted S T K A) (s : Sight T) (read : CountedReader S T K A) (g : CountedReads G s read) (wants : s.null ≡ false) (seen : (t : T) → is_some (over t) ≡ s.first t) (off : (x : T) → (s.more x && separates x) ≡ false) where
  pub reads-list_of : CountedReads (list_of limit over separates G) (list_sight s separates) (read_list_of limit over separates read)
  reads-list_of n =
      reads-made (λ p. (p.0, p.1.1)) (chain (λ a rest. a ∷ rest) (item over G) (past separates (item over G)) (limit, n)) (list_sight s separates) (read_chain (λ a rest. a ∷ rest) separates (read_item over read) (read_counted_past separates (read_item over read)) (limit, n))
      (reads_then (chain (λ a rest. a ∷ rest) (item over G) (past separates (item over G)) (limit, n)) s (many_sight (past_sight separates s)) (read_chain (λ a rest. a ∷ rest) separates (read_item over read) (read_counted_past separates (read_item over read)) (limit, n)) wants
      (reads-chain (λ a rest. a ∷ rest) (item over G) (past separates (item over G)) s (past_sight separates s) (read_item over read) (read_counted_past separates (read_item over read))
      (reads-item over G s read g wants seen) (reads-counted_past separates (item over G) s (read_item over read) (reads-item over G s read g wants seen))
      refl off off (limit, n)))

-- how a chain begins
module _ {S T K A B C : Type 0} (node : A → List B → C) (test : T → Bool) (first : CountedReader S T K A) (part : CountedReader S T K B) where
  begun_links : (a : A) (o : Outcome T K (List B × S)) → read_made {B = C × S} (λ p. (node p.0.0 p.0.1, p.1)) (read_made {B = (A × List B) × S} (λ q. ((a, q.0), q.1)) o) ≡ read_made {B = C × S} (λ q. (node a ([] ++ q.0), q.1)) o
  begun_links a (found q left) = refl
  begun_links a (failed k left) = refl

  -- the first has been read, or fails
  pub chain_begin : (n : S) (ts : List T) (a : A) (m : S) (left : List T) → first n ts ≡ found (a, m) left → read_chain node test first part n ts ≡ read_links (node a) test part [] m left
  unfolding read_chain read_links
  chain_begin n ts a m left e = rw e (begun_links a (read_many_from test part m left))

  pub chain_fail : (n : S) (ts : List T) (k : Option K) (left : List T) → first n ts ≡ failed k left → read_chain node test first part n ts ≡ failed k left
  unfolding read_chain
  chain_fail n ts k left e = rw e refl

-- how a list begins, whose first is one of its values
module _ {S T K A : Type 0} (test : T → Bool) (first part : CountedReader S T K A) where
  listed_links : (a : A) (o : Outcome T K (List A × S)) → read_made {B = List A × S} (λ p. (p.0.0 ∷ p.0.1, p.1)) (read_made {B = (A × List A) × S} (λ q. ((a, q.0), q.1)) o) ≡ read_made {B = List A × S} (λ q. ((a ∷ []) ++ q.0, q.1)) o
  listed_links a (found q left) = refl
  listed_links a (failed k left) = refl

  pub list_begin : (n : S) (ts : List T) (a : A) (m : S) (left : List T) → first n ts ≡ found (a, m) left → read_chain (λ b rest. b ∷ rest) test first part n ts ≡ read_links (λ all. all) test part (a ∷ []) m left
  unfolding read_chain read_links
  list_begin n ts a m left e = rw e (listed_links a (read_many_from test part m left))

-- how it goes on
module _ {S T K B C : Type 0} (node : List B → C) (test : T → Bool) (part : CountedReader S T K B) (less : CountedShrinks part) (so_far : List B) (n : S) (ts : List T) where
  joined_links : (b : B) (o : Outcome T K (List B × S)) → read_made {B = C × S} (λ q. (node (so_far ++ q.0), q.1)) (read_made (joined_to b) o) ≡ read_made {B = C × S} (λ q. (node ((so_far ++ b ∷ []) ++ q.0), q.1)) o
  joined_links b (found q left) = rw append_assoc
  joined_links b (failed k left) = refl

  -- one more has been read, no more stands there, or the next one fails
  pub links_step : (b : B) (m : S) (left : List T) → starts test ts ≡ true → part n ts ≡ found (b, m) left → read_links node test part so_far n ts ≡ read_links node test part (so_far ++ b ∷ []) m left
  unfolding read_links
  links_step b m left e f = rw (read_many_from-unrolled test part less n ts, e, f) (joined_links b (read_many_from test part m left))

  pub links_stop : starts test ts ≡ false → read_links node test part so_far n ts ≡ found (node so_far, n) ts
  unfolding read_links
  links_stop e = rw (read_many_from-unrolled test part less n ts, e, append-nil)

  pub links_fail : (k : Option K) (left : List T) → starts test ts ≡ true → part n ts ≡ failed k left → read_links node test part so_far n ts ≡ failed k left
  unfolding read_links
  links_fail k left e f = rw (read_many_from-unrolled test part less n ts, e, f)
