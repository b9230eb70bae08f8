-- Lookaheads over classes of symbols, and side conditions as Bool tests over a list of all classes: where every rule's
-- lookahead is a literal record of tests, each condition computes and is one `refl`.
use Rattle.std.proofs.Common.{◌≡◌, ℕ, zero, suc, ◌||◌, ◌&&◌, Bool, true, false, not, List, [], ◌∷◌, Some, refl}
use Rattle.std.specs.List.{list_all, slice_get}
use Rattle.grammar_rules.specs.Rules.{Rule}
use Rattle.grammar_rules.specs.Readers.{Outcome}
use Rattle.grammar_rules.proofs.Clear.{Sight}
use Rattle.grammar_rules.proofs.Sequences.{Apart}
use Rattle.grammar_rules.proofs.Choices.{Distinct}
use Rattle.grammar_rules.proofs.Terminals.{Sees}
use Rattle.grammar_rules.proofs.Reading.{Reads, and_first, and_second, reads_seen}

-- the lookahead that tells symbols by their class
abbrev pub by_class : {T C : Type 0} → (T → C) → Sight C → Sight T
by_class class s = record { first = λ t. s.first (class t); null = s.null; more = λ t. s.more (class t) }

-- ---- all classes

-- what holds of each class of the list holds of every class
abbrev pub Every : {C : Type 0} → List C → Type 0
Every {C = C} all = (f : C → Bool) → list_all f all ≡ true → (c : C) → f c ≡ true

passes_there : {C : Type 0} (f : C → Bool) (all : List C) (n : ℕ) (c : C) → list_all f all ≡ true → slice_get all n ≡ Some c → f c ≡ true
passes_there f [] n c h e = cc
passes_there f (b ∷ all) zero c h e = let p : b ≡ c = cc in rw (← p) (and_first (f b) (list_all f all) h)
passes_there f (b ∷ all) (suc n) c h e = passes_there f all n c (and_second (f b) (list_all f all) h) e

-- each class has a place in the list
pub every_at : {C : Type 0} (all : List C) (place : C → ℕ) → ((c : C) → slice_get all (place c) ≡ Some c) → Every all
every_at all place stands f h c = passes_there f all (place c) c h (stands c)

-- ---- tests

abbrev pub agree : Bool → Bool → Bool
agree true b = b
agree false b = not b

-- no class both goes on with the first and begins the second
abbrev pub apart_in : {C : Type 0} → List C → Sight C → Sight C → Bool
apart_in all s t = list_all (λ c. not (s.more c && t.first c)) all

-- no class begins both
abbrev pub distinct_in : {C : Type 0} → List C → Sight C → Sight C → Bool
distinct_in all s t = list_all (λ c. not (s.first c && t.first c)) all

-- the second lookahead has the same classes first, and no fewer behind
abbrev pub seen_in : {C : Type 0} → List C → Sight C → Sight C → Bool
seen_in all s t = agree s.null t.null && list_all (λ c. agree (s.first c) (t.first c) && (not (s.more c) || t.more c)) all

-- what may go on with it passes the test
abbrev pub more_in : {C : Type 0} → List C → Sight C → (C → Bool) → Bool
more_in all s more = list_all (λ c. not (s.more c) || more c) all

not_both : (b : Bool) → not b ≡ true → b ≡ false
not_both true e = cc
not_both false e = refl

agree_there : (a b : Bool) → agree a b ≡ true → a ≡ true → b ≡ true
agree_there true b e f = e
agree_there false b e f = cc

agree_back : (a b : Bool) → agree a b ≡ true → b ≡ true → a ≡ true
agree_back true b e f = refl
agree_back false true e f = cc
agree_back false false e f = f

implied : (a b : Bool) → (not a || b) ≡ true → a ≡ true → b ≡ true
implied true b e f = e
implied false b e f = cc

-- ---- what the tests tell

module _ {T C : Type 0} (class : T → C) (all : List C) (every : Every all) (s : Sight C) where
  pub apart_by : (t : Sight C) → apart_in all s t ≡ true → Apart (by_class class s) (by_class class t)
  apart_by t e x = not_both (s.more (class x) && t.first (class x)) (every (λ c. not (s.more c && t.first c)) e (class x))

  pub distinct_by : (t : Sight C) → distinct_in all s t ≡ true → Distinct (by_class class s) (by_class class t)
  distinct_by t e x = not_both (s.first (class x) && t.first (class x)) (every (λ c. not (s.first c && t.first c)) e (class x))

  pub more_by : (more : C → Bool) → more_in all s more ≡ true → (x : T) → s.more (class x) ≡ true → more (class x) ≡ true
  more_by more e x f = implied (s.more (class x)) (more (class x)) (every (λ c. not (s.more c) || more c) e (class x)) f

  -- the lookahead written as another record
  pub reads_by : {K A : Type 0} (G : Rule T K A) (t : Sight C) (read : List T → Outcome T K A) → seen_in all s t ≡ true → Reads G (by_class class s) read → Reads G (by_class class t) read
  reads_by G t read e g =
      let null : agree s.null t.null ≡ true = and_first (agree s.null t.null) _ e in
      let each : (x : T) → (agree (s.first (class x)) (t.first (class x)) && (not (s.more (class x)) || t.more (class x))) ≡ true = λ x. every (λ c. agree (s.first c) (t.first c) && (not (s.more c) || t.more c)) (and_second (agree s.null t.null) _ e) (class x) in
      let sees : Sees (by_class class s) (by_class class t) = record {
        first = λ x f. agree_there (s.first (class x)) (t.first (class x)) (and_first (agree (s.first (class x)) (t.first (class x))) _ (each x)) f;
        null = λ f. agree_there s.null t.null null f;
        more = λ x f. implied (s.more (class x)) (t.more (class x)) (and_second (agree (s.first (class x)) (t.first (class x))) _ (each x)) f;
      } in
      reads_seen G (by_class class s) (by_class class t) read sees
      (λ x f. agree_back (s.first (class x)) (t.first (class x)) (and_first (agree (s.first (class x)) (t.first (class x))) _ (each x)) f)
      (λ f. agree_back s.null t.null null f) g
