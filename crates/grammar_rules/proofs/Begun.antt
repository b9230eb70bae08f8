-- A choice that begins with one symbol, whose value tells what follows, is read.
use Rattle.std.proofs.Common.{◌≡◌, ◌||◌, ◌⊎◌, if◌then◌else◌, Bool, true, false, List, [], ◌∷◌, ◌++◌, refl, inl, inr}
use Rattle.grammar_rules.specs.Rules.{Rule, Last, fits, faulty, Verdict, takes, faults, refuses, SpelledByOne, FrontOfOne, terminal, token, sequence, begun, preceded_by}
use Rattle.grammar_rules.specs.Readers.{Outcome, and_then, read_terminal, is_seen, read_begun}
use Rattle.grammar_rules.specs.Counted.{Counted, after}
use Rattle.grammar_rules.specs.CountedReaders.{CountedReader, read_after}
use Rattle.grammar_rules.proofs.Clear.{Closed, Sight, Clear}
use Rattle.grammar_rules.proofs.Sequences.{sequence_sight, clear-sequence}
use Rattle.grammar_rules.proofs.Terminals.{clear-wider}
use Rattle.grammar_rules.proofs.Right.{right-sequence}
use Rattle.grammar_rules.proofs.Reading.{Reads, token_sight}
use Rattle.grammar_rules.proofs.Counts.{CountedReads, reads_look}

-- the lookahead of a choice that begins with such a symbol and may go on so
abbrev pub begun_sight : {T : Type 0} → (T → Bool) → (T → Bool) → Sight T
begun_sight first more = record { first = first; null = false; more = more }

or_false : (b : Bool) → (b || false) ≡ true → b ≡ true
or_false true e = refl
or_false false e = e

-- G takes one symbol. Each value has its own rule, with a lookahead of its own
module _ {T K A B : Type 0} (G : Rule T K A) (H : A → Rule T K B) (first : T → Bool) (each : A → Sight T) (read : List T → Outcome T K A) (next : A → List T → Outcome T K B) (g : Reads G (token_sight first) read) (h : (a : A) → Reads (H a) (each a) (next a)) (more : T → Bool) (wide : (a : A) (x : T) → (each a).more x ≡ true → more x ≡ true) where
  abbrev rest_sight : Sight T
  rest_sight = record { first = λ x. true; null = true; more = more }

  clear_rest : (a : A) → Clear (H a) rest_sight
  clear_rest a = clear-wider (H a) (each a) rest_sight (record { first = λ x e. refl; null = λ e. refl; more = wide a }) (h a).clear

  pub reads_behind_one : Reads (sequence G H) (begun_sight first more) (λ ts. and_then (read ts) next)
  reads_behind_one = record {
    clear =
        clear-wider (sequence G H) (sequence_sight (token_sight first) rest_sight) (begun_sight first more)
        (record { first = λ x e. or_false (first x) e; null = λ e. e; more = λ x e. or_false (more x) e })
        (clear-sequence G H (token_sight first) rest_sight g.clear clear_rest (λ x. refl));
    exact = λ t e. let f = g.exact t e in (f.0, inl f.1);
    empty = λ e. cc;
    right = λ ts. right-sequence G H (token_sight first) rest_sight g.clear clear_rest (λ x. refl) ts (read ts) (g.right ts) next (λ a left. (h a).right left);
  }

pub reads-begun : {T K A B : Type 0} (look : T → Verdict K A) (H : A → Rule T K B) (each : A → Sight T) (next : A → List T → Outcome T K B) (first : T → Bool) → ((t : T) → is_seen (look t) ≡ first t) → ((a : A) → Reads (H a) (each a) (next a)) → (more : T → Bool) → ((a : A) (x : T) → (each a).more x ≡ true → more x ≡ true) → Reads (begun look H) (begun_sight first more) (read_begun look next)
reads-begun look H each next first seen h more wide =
    reads_behind_one (terminal look) H first each (read_terminal look) next (reads_look look first seen) h more wide

-- the same with a count
pub reads-counted_begun : {S T K A B : Type 0} (G : Counted S T K A) (H : A → Counted S T K B) (each : A → Sight T) (read : CountedReader S T K A) (next : A → CountedReader S T K B) (first : T → Bool) → CountedReads G (token_sight first) read → ((a : A) → CountedReads (H a) (each a) (next a)) → (more : T → Bool) → ((a : A) (x : T) → (each a).more x ≡ true → more x ≡ true) → CountedReads (after G H) (begun_sight first more) (read_after read next)
reads-counted_begun G H each read next first g h more wide n =
    reads_behind_one (G n) (λ p. H p.0 p.1) first (λ p. each p.0) (read n) (λ p left. next p.0 p.1 left) (g n) (λ p. h p.0 p.1) more (λ p x e. wide p.0 x e)

-- a text, and a front, of what begins with one symbol
pub data TextBehind {T K A B : Type 0} (look : T → Verdict K A) (H : A → Rule T K B) (b : B) (ts : List T) : Type 0 where
  text_behind : (t : T) (a : A) (r : List T) → ts ≡ t ∷ r → look t ≡ takes a → (H a).Spells b r → TextBehind look H b ts

pub data FrontBehind {T K A B : Type 0} (look : T → Verdict K A) (H : A → Rule T K B) (last : Last K) (ts : List T) : Type 0 where
  no_symbol : last ≡ fits → ts ≡ [] → FrontBehind look H last ts
  one_symbol : (t : T) → ts ≡ t ∷ [] → FrontOfOne look last (t ∷ []) → FrontBehind look H last ts
  front_behind : (t : T) (a : A) (r : List T) → ts ≡ t ∷ r → look t ≡ takes a → (H a).Front last r → FrontBehind look H last ts

module _ {T K A B : Type 0} (look : T → Verdict K A) (H : A → Rule T K B) where
  text_cases : (b : B) (ts : List T) (a : A) (left right : List T) → ts ≡ left ++ right → SpelledByOne look a left → (H a).Spells b right → TextBehind look H b ts
  text_cases b ts a [] right e w v = absurd w
  text_cases b ts a (t ∷ []) right e w v = text_behind t a right e w v
  text_cases b ts a (t ∷ u ∷ left) right e w v = absurd w

  pub begun_text : (b : B) (ts : List T) → (begun look H).Spells b ts → TextBehind look H b ts
  begun_text b ts j = text_cases b ts j.value j.left j.right j.joined j.whole j.after

  one_cases : (last : Last K) (ts : List T) → FrontOfOne look last ts → FrontBehind look H last ts
  one_cases fits [] f = no_symbol refl refl
  one_cases (faulty k) [] f = absurd f
  one_cases last (t ∷ []) f = one_symbol t refl f
  one_cases fits (t ∷ u ∷ ts) f = absurd f
  one_cases (faulty k) (t ∷ u ∷ ts) f = absurd f

  front_cases : (last : Last K) (ts : List T) (a : A) (left right : List T) → ts ≡ left ++ right → SpelledByOne look a left → (H a).Front last right → FrontBehind look H last ts
  front_cases last ts a [] right e w f = absurd w
  front_cases last ts a (t ∷ []) right e w f = front_behind t a right e w f
  front_cases last ts a (t ∷ u ∷ left) right e w f = absurd w

  pub begun_front : (last : Last K) (ts : List T) → (begun look H).Front last ts → FrontBehind look H last ts
  begun_front last ts (inl f) = one_cases last ts f
  begun_front last ts (inr j) = front_cases last ts j.value j.left j.right j.joined j.whole j.after

-- the same behind a symbol that passes a test
module _ {T : Type 0} (test : T → Bool) where
  passed_cases : (K : Type 0) (t u : T) (b : Bool) → test t ≡ b → ◌≡◌ {A = Verdict K T} (if b then takes t else refuses) (takes u) → test t ≡ true
  passed_cases K t u true p e = p
  passed_cases K t u false p e = cc

  passed : (K : Type 0) (t u : T) → ◌≡◌ {A = Verdict K T} (if test t then takes t else refuses) (takes u) → test t ≡ true
  passed K t u e = passed_cases K t u (test t) refl e

  never_faulty : {K : Type 0} (k : K) (t : T) (b : Bool) → (if b then takes t else refuses) ≡ faults k → ⊥
  never_faulty k t true e = cc
  never_faulty k t false e = cc

  module _ {K A : Type 0} (G : Rule T K A) where
    past_text_cases : (a : A) (ts : List T) → TextBehind (λ t. if test t then takes t else refuses) (λ t. G) a ts → (t : T) × (r : List T) × (ts ≡ t ∷ r) × (test t ≡ true) × G.Spells a r
    past_text_cases a ts (text_behind t u r e f w) = (t, r, e, passed K t u f, w)

    pub past_text : (a : A) (ts : List T) → (preceded_by (token test) G).Spells a ts → (t : T) × (r : List T) × (ts ≡ t ∷ r) × (test t ≡ true) × G.Spells a r
    past_text a ts w = past_text_cases a ts (begun_text (λ t. if test t then takes t else refuses) (λ t. G) a ts w)

    past_one : Closed G → (last : Last K) (t : T) → FrontOfOne (λ t. if test t then takes t else refuses) last (t ∷ []) → (test t ≡ true) × G.Front last []
    past_one g fits t f = (passed K t f.0 f.1, g.nil)
    past_one g (faulty k) t f = absurd (never_faulty k t (test t) f)

    past_front_cases : Closed G → (last : Last K) (ts : List T) → FrontBehind (λ t. if test t then takes t else refuses) (λ t. G) last ts → ((last ≡ fits) × (ts ≡ [])) ⊎ ((t : T) × (r : List T) × (ts ≡ t ∷ r) × (test t ≡ true) × G.Front last r)
    past_front_cases g last ts (no_symbol e f) = inl (e, f)
    past_front_cases g last ts (one_symbol t e f) = let h = past_one g last t f in inr (t, [], e, h.0, h.1)
    past_front_cases g last ts (front_behind t u r e f w) = inr (t, r, e, passed K t u f, w)

    pub past_front : Closed G → (last : Last K) (ts : List T) → (preceded_by (token test) G).Front last ts → ((last ≡ fits) × (ts ≡ [])) ⊎ ((t : T) × (r : List T) × (ts ≡ t ∷ r) × (test t ≡ true) × G.Front last r)
    past_front g last ts f = past_front_cases g last ts (begun_front (λ t. if test t then takes t else refuses) (λ t. G) last ts f)
