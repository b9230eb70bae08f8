-- Rules with a count are read: one law a combinator, with one lookahead for all counts.
use Rattle.std.proofs.Common.{◌≡◌, ℕ, zero, suc, ◌-◌, nat_lt, drop, arith, ◌&&◌, Bool, true, false, List, [], ◌∷◌, Option, Some, None, is_some, refl, ◌∙◌}
use Rattle.std.proofs.lemmas.Bool.Decides.{nat_tests}
use Rattle.grammar_rules.specs.Rules.{Rule, Verdict, takes, faults, refuses, limited, told, terminal, nothing, made, where_room}
use Rattle.grammar_rules.specs.Readers.{Outcome, found, failed, read_made, read_symbol, starts, read_terminal, is_seen, read_where_room}
use Rattle.grammar_rules.specs.Counted.{Counted, plain, one_more, given, both, after, past, before, maybe, item}
use Rattle.grammar_rules.specs.CountedReaders.{CountedReader, read_plain, read_one_more, read_given, read_both, read_after, read_counted_past, read_counted_before, read_maybe, read_item}
use Rattle.grammar_rules.proofs.Clear.{Sight}
use Rattle.grammar_rules.proofs.Sequences.{Apart, sequence_sight}
use Rattle.grammar_rules.proofs.Terminals.{terminal_sight, nothing_sight}
use Rattle.grammar_rules.proofs.Reading.{Reads, reads-terminal, reads-nothing, reads-made, reads-sequence, reads-past, reads-before, past_sight, before_sight, token_sight, reads_seen}
use Rattle.grammar_rules.proofs.Choices.{optional_sight, reads-either}

-- the reader reads the rule from each count, with this lookahead
abbrev pub CountedReads : {S T K A : Type 0} → Counted S T K A → Sight T → CountedReader S T K A → Type 0
CountedReads {S = S} G s read = (n : S) → Reads (G n) s (read n)

-- ---- terminals with limits

pub seen_limited : {K A : Type 0} (k : K) (room : Bool) (v : Verdict K A) → is_seen (limited k room v) ≡ is_seen v
seen_limited k true v = refl
seen_limited k false (takes a) = refl
seen_limited k false (faults j) = refl
seen_limited k false refuses = refl

-- a terminal that sees what the test says
pub reads_look : {T K A : Type 0} (look : T → Verdict K A) (first : T → Bool) → ((t : T) → is_seen (look t) ≡ first t) → Reads (terminal look) (token_sight first) (read_terminal look)
reads_look look first e =
    reads_seen (terminal look) (terminal_sight look) (token_sight first) (read_terminal look)
    (record { first = λ t f. rw (← e t) f; null = λ f. f; more = λ t f. f })
    (λ t f. rw (e t) f) (λ f. f) (reads-terminal look)

-- a limit doesn't change what is seen
pub reads-limited : {T K A : Type 0} (k : K) (room : Bool) (look : T → Verdict K A) (first : T → Bool) → ((t : T) → is_seen (look t) ≡ first t) → Reads (terminal (λ t. limited k room (look t))) (token_sight first) (read_terminal (λ t. limited k room (look t)))
reads-limited k room look first seen = reads_look (λ t. limited k room (look t)) first (λ t. seen_limited k room (look t) ∙ seen t)

some_left : (n : ℕ) → (n ≡ 0 → ⊥) → nat_lt 0 n ≡ true
some_left zero z = absurd (z refl)
some_left (suc n) z = grind (arith, nat_tests)

seen_told : {K : Type 0} (A : Type 0) (o : Option K) → is_seen {A = A} (told o) ≡ is_some o
seen_told A None = refl
seen_told A (Some k) = refl

module _ {T K A : Type 0} (G : Rule T K A) (s : Sight T) (read : List T → Outcome T K A) (g : Reads G s read) (wants : s.null ≡ false) (over : T → Option K) (seen : (t : T) → is_some (over t) ≡ s.first t) where
  reads_over : Reads (terminal (λ t. told {A = A} (over t))) s (read_terminal (λ t. told (over t)))
  reads_over =
      reads_seen (terminal (λ t. told (over t))) (token_sight s.first) s (read_terminal (λ t. told (over t)))
      (record { first = λ t f. f; null = λ f. cc; more = λ t f. cc })
      (λ t f. f) (λ f. cc) (reads_look (λ t. told (over t)) s.first (λ t. seen_told A (over t) ∙ seen t))

  -- a rule where there is room for it, and else a fault at each symbol that would begin it
  pub reads-where_room : (room : Bool) → Reads (where_room room over G) s (read_where_room room over read)
  reads-where_room true = g
  reads-where_room false = reads_over

-- ---- counts

pub reads-plain : {S T K A : Type 0} (G : Rule T K A) (s : Sight T) (read : List T → Outcome T K A) → Reads G s read → CountedReads {S = S} (plain G) s (read_plain read)
reads-plain G s read g n = reads-made (λ a. (a, n)) G s read g

pub reads-one_more : {T K A : Type 0} (k : K) (look : T → Verdict K A) (first : T → Bool) → ((t : T) → is_seen (look t) ≡ first t) → CountedReads (one_more k look) (token_sight first) (read_one_more k look)
reads-one_more k look first seen n =
    reads-made (λ a. (a, n - 1)) (terminal (λ t. limited k (nat_lt 0 n) (look t))) (token_sight first) (read_terminal (λ t. limited k (nat_lt 0 n) (look t)))
    (reads-limited k (nat_lt 0 n) look first seen)

-- the steps of code that reads a counted symbol
module _ {T K A : Type 0} (k : K) (look : T → Verdict K A) (n : ℕ) where
  refused_limited : (room : Bool) (v : Verdict K A) (t : T) (ts : List T) → is_seen v ≡ false → read_made {B = A × ℕ} (λ a. (a, n - 1)) (read_symbol (limited k room v) t ts) ≡ failed None (t ∷ ts)
  refused_limited room (takes a) t ts e = let p : true ≡ false = e in cc
  refused_limited room (faults j) t ts e = let p : true ≡ false = e in cc
  refused_limited true refuses t ts e = refl
  refused_limited false refuses t ts e = refl

  pub one_more_refused : (first : T → Bool) → ((t : T) → is_seen (look t) ≡ first t) → (ts : List T) → starts first ts ≡ false → read_one_more k look n ts ≡ failed None ts
  one_more_refused first seen [] e = refl
  one_more_refused first seen (t ∷ ts) e = refused_limited (nat_lt 0 n) (look t) t ts (seen t ∙ e)

  pub one_more_over : (t : T) (a : A) (ts : List T) → ts ≡ t ∷ drop 1 ts → look t ≡ takes a → n ≡ 0 → read_one_more k look n ts ≡ failed (Some k) ts
  one_more_over t a [] e f z = absurd (let p : [] ≡ t ∷ [] = e in cc)
  one_more_over t a (u ∷ ts) e f z = let p : u ≡ t = cc in rw (p, z, f) refl

  pub one_more_taken : (t : T) (a : A) (ts left : List T) → ts ≡ t ∷ drop 1 ts → look t ≡ takes a → (n ≡ 0 → ⊥) → left ≡ drop 1 ts → read_one_more k look n ts ≡ found (a, n - 1) left
  one_more_taken t a [] left e f z l = absurd (let p : [] ≡ t ∷ [] = e in cc)
  one_more_taken t a (u ∷ ts) left e f z l =
      let p : u ≡ t = cc in
      let q : nat_lt 0 n ≡ true = some_left n z in
      rw (p, f, q, l) refl

pub reads-given : {S T K A B : Type 0} (f : A → B) (G : Counted S T K A) (s : Sight T) (read : CountedReader S T K A) → CountedReads G s read → CountedReads (given f G) s (read_given f read)
reads-given f G s read g n = reads-made (λ p. (f p.0, p.1)) (G n) s (read n) (g n)

pub reads-both : {S T K A B : Type 0} (G : Counted S T K A) (H : Counted S T K B) (s t : Sight T) (read : CountedReader S T K A) (next : CountedReader S T K B) → CountedReads G s read → CountedReads H t next → Apart s t → CountedReads (both G H) (sequence_sight s t) (read_both read next)
reads-both G H s t read next g h off n =
    reads-sequence (G n) (λ p. made (λ q. ((p.0, q.0), q.1)) (H p.1)) s t (read n) (λ p left. read_made (λ q. ((p.0, q.0), q.1)) (next p.1 left))
    (g n) (λ p. reads-made (λ q. ((p.0, q.0), q.1)) (H p.1) t (next p.1) (h p.1)) off

pub reads-after : {S T K A B : Type 0} (G : Counted S T K A) (H : A → Counted S T K B) (s t : Sight T) (read : CountedReader S T K A) (next : A → CountedReader S T K B) → CountedReads G s read → ((a : A) → CountedReads (H a) t (next a)) → Apart s t → CountedReads (after G H) (sequence_sight s t) (read_after read next)
reads-after G H s t read next g h off n =
    reads-sequence (G n) (λ p. H p.0 p.1) s t (read n) (λ p left. next p.0 p.1 left) (g n) (λ p. h p.0 p.1) off

pub reads-counted_past : {S T K A : Type 0} (test : T → Bool) (G : Counted S T K A) (s : Sight T) (read : CountedReader S T K A) → CountedReads G s read → CountedReads (past test G) (past_sight test s) (read_counted_past test read)
reads-counted_past test G s read g n = reads-past test (G n) s (read n) (g n)

pub reads-counted_before : {S T K A : Type 0} (G : Counted S T K A) (s : Sight T) (read : CountedReader S T K A) (test : T → Bool) → CountedReads G s read → s.null ≡ false → ((x : T) → (s.more x && test x) ≡ false) → CountedReads (before G test) (before_sight s) (read_counted_before read test)
reads-counted_before G s read test g wants off n = reads-before (G n) s (read n) test (g n) wants off

and_false : (b : Bool) → (b && false) ≡ false
and_false true = refl
and_false false = refl

pub reads-maybe : {S T K A : Type 0} (G : Counted S T K A) (s : Sight T) (read : CountedReader S T K A) → CountedReads G s read → s.null ≡ false → CountedReads (maybe G) (optional_sight s) (read_maybe s.first read)
reads-maybe G s read g wants n =
    reads-either (given Some G n) (nothing (None, n)) s nothing_sight (read_given Some read n) (λ ts. found (None, n) ts)
    (reads-given Some G s read g n) (reads-nothing (None, n)) (λ x. and_false (s.first x)) wants

-- an item of a list with a limit
pub reads-item : {S T K A : Type 0} (over : T → Option K) (G : Counted S T K A) (s : Sight T) (read : CountedReader S T K A) → CountedReads G s read → s.null ≡ false → ((t : T) → is_some (over t) ≡ s.first t) → CountedReads (item over G) s (read_item over read)
reads-item over G s read g wants seen c =
    reads-where_room (made (λ p. (p.0, (c.0 - 1, p.1))) (G c.1)) s (λ left. read_made (λ p. (p.0, (c.0 - 1, p.1))) (read c.1 left))
    (reads-made (λ p. (p.0, (c.0 - 1, p.1))) (G c.1) s (read c.1) (g c.1)) wants over seen (nat_lt 0 c.0)
