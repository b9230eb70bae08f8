-- The laws of terminals, of the empty text, and of a rule whose values are made of another's.
use Rattle.std.proofs.Common.{◌≡◌, true, false, List, [], ◌∷◌, ◌++◌, refl, sym, ap, ◌∙◌}
use Rattle.grammar_rules.specs.Rules.{Rule, Last, fits, faulty, Verdict, terminal, nothing, made, SpelledByOne, FrontOfOne}
use Rattle.grammar_rules.specs.Readers.{is_seen}
use Rattle.grammar_rules.proofs.Clear.{Closed, Sight, Clear}
use Rattle.grammar_rules.proofs.Alternatives.{cons_not_nil}

abbrev pub terminal_sight : {T K A : Type 0} → (T → Verdict K A) → Sight T
terminal_sight look = record { first = λ t. is_seen (look t); null = false; more = λ t. false }

module _ {T K A : Type 0} (look : T → Verdict K A) where
  spelled_one : (a : A) (ts : List T) → SpelledByOne look a ts → FrontOfOne look fits ts
  spelled_one a [] w = absurd w
  spelled_one a (t ∷ []) w = (a, w)
  spelled_one a (t ∷ u ∷ ts) w = absurd w

  closed_one : (m : Last K) (pre : List T) (t : T) (r : List T) → FrontOfOne look m (pre ++ t ∷ r) → FrontOfOne look fits pre
  closed_one m [] t r f = tt
  closed_one fits (u ∷ []) t r f = absurd f
  closed_one fits (u ∷ v ∷ pre) t r f = absurd f
  closed_one (faulty k) (u ∷ []) t r f = absurd f
  closed_one (faulty k) (u ∷ v ∷ pre) t r f = absurd f

  pub closed-terminal : Closed (terminal look)
  closed-terminal = record { nil = tt; spelled = spelled_one; closed = closed_one }

  starts_one : (m : Last K) (t : T) (r : List T) → FrontOfOne look m (t ∷ r) → is_seen (look t) ≡ true
  starts_one fits t [] f = rw f.1
  starts_one fits t (u ∷ r) f = absurd f
  starts_one (faulty k) t [] f = rw f
  starts_one (faulty k) t (u ∷ r) f = absurd f

  on_one : (a : A) (pre : List T) (m : Last K) (t : T) (r : List T) → SpelledByOne look a pre → FrontOfOne look m (pre ++ t ∷ r) → false ≡ true
  on_one a [] m t r w f = absurd w
  on_one a (u ∷ []) fits t r w f = absurd f
  on_one a (u ∷ []) (faulty k) t r w f = absurd f
  on_one a (u ∷ v ∷ pre) m t r w f = absurd w

  single_one : (a b : A) (ts : List T) → SpelledByOne look a ts → SpelledByOne look b ts → a ≡ b
  single_one a b [] w v = absurd w
  single_one a b (t ∷ []) w v = cc
  single_one a b (t ∷ u ∷ ts) w v = absurd w

  last_one : (k : K) (pre : List T) (m : Last K) (r : List T) → FrontOfOne look (faulty k) pre → FrontOfOne look m (pre ++ r) → (r ≡ []) × (m ≡ faulty k)
  last_one k [] m r f x = absurd f
  last_one k (t ∷ []) fits [] f x = let e = x.1 in cc
  last_one k (t ∷ []) (faulty j) [] f x = (refl, cc)
  last_one k (t ∷ []) fits (u ∷ r) f x = absurd x
  last_one k (t ∷ []) (faulty j) (u ∷ r) f x = absurd x
  last_one k (t ∷ u ∷ pre) m r f x = absurd f

  pub clear-terminal : Clear (terminal look) (terminal_sight look)
  clear-terminal = record {
    fronts = closed-terminal;
    starts = starts_one;
    empty = λ a w. absurd w;
    goes_on = on_one;
    single = single_one;
    last = last_one;
  }

abbrev pub nothing_sight : {T : Type 0} → Sight T
nothing_sight = record { first = λ t. false; null = true; more = λ t. false }

module _ {T K A : Type 0} (a : A) where
  closed_nothing : (m : Last K) (pre : List T) (t : T) (r : List T) → (nothing {T = T} {K = K} a).Front m (pre ++ t ∷ r) → (nothing {T = T} {K = K} a).Front fits pre
  closed_nothing m pre t r f = absurd (cons_not_nil pre t r f.1)

  pub closed-nothing : Closed (nothing {T = T} {K = K} a)
  closed-nothing = record {
    nil = (refl, refl);
    spelled = λ b ts w. (refl, w.1);
    closed = closed_nothing;
  }

  pub clear-nothing : Clear (nothing {T = T} {K = K} a) nothing_sight
  clear-nothing = record {
    fronts = closed-nothing;
    starts = λ m t r f. absurd (cons_not_nil [] t r f.1);
    empty = λ b w. refl;
    goes_on = λ b pre m t r w f. absurd (cons_not_nil pre t r f.1);
    single = λ b c ts w v. sym w.0 ∙ v.0;
    last = λ k pre m r f x. let e = f.0 in cc;
  }

module _ {T K A B : Type 0} (f : A → B) (G : Rule T K A) where
  pub closed-made : Closed G → Closed (made f G)
  closed-made g = record {
    nil = g.nil;
    spelled = λ b ts w. g.spelled w.0 ts w.2;
    closed = g.closed;
  }

  pub clear-made : (s : Sight T) → Clear G s → Clear (made f G) s
  clear-made s g = record {
    fronts = closed-made g.fronts;
    starts = g.starts;
    empty = λ b w. g.empty w.0 w.2;
    goes_on = λ b pre m t r w x. g.goes_on w.0 pre m t r w.2 x;
    single = λ b c ts w v. sym w.1 ∙ (ap f (g.single w.0 v.0 ts w.2 v.2) ∙ v.1);
    last = g.last;
  }

-- the first lookahead sees no more than the second
pub record Sees {T : Type 0} (s t : Sight T) : Type 0 where
  pub first : (x : T) → s.first x ≡ true → t.first x ≡ true
  pub null : s.null ≡ true → t.null ≡ true
  pub more : (x : T) → s.more x ≡ true → t.more x ≡ true

pub clear-wider : {T K A : Type 0} (G : Rule T K A) (s t : Sight T) → Sees s t → Clear G s → Clear G t
clear-wider G s t w g = record {
  fronts = g.fronts;
  starts = λ m x r f. w.first x (g.starts m x r f);
  empty = λ a v. w.null (g.empty a v);
  goes_on = λ a pre m x r v f. w.more x (g.goes_on a pre m x r v f);
  single = g.single;
  last = g.last;
}
