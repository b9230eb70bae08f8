-- What one symbol of lookahead can tell of a rule.
use Rattle.std.proofs.Common.{◌≡◌, Bool, true, List, [], ◌∷◌, ◌++◌}
use Rattle.grammar_rules.specs.Rules.{Rule, Last, fits, faulty}

-- the fronts of a rule are what they should be: the empty list, each text, and each front of a front
pub record Closed {T K A : Type 0} (G : Rule T K A) : Type 0 where
  pub nil : G.Front fits []
  pub spelled : (a : A) (ts : List T) → G.Spells a ts → G.Front fits ts
  pub closed : (m : Last K) (pre : List T) (t : T) (r : List T) → G.Front m (pre ++ t ∷ r) → G.Front fits pre

-- the lookahead of a rule: the symbols with which a text or a fault may begin, whether the empty
-- list may be a text, and the symbols with which a whole text may go on
pub record Sight (T : Type 0) : Type 0 where
  pub first : T → Bool
  pub null : Bool
  pub more : T → Bool

-- one symbol of this lookahead is enough: a text spells one value, and nothing goes on from a fault
pub record Clear {T K A : Type 0} (G : Rule T K A) (s : Sight T) : Type 0 where
  pub fronts : Closed G
  pub starts : (m : Last K) (t : T) (r : List T) → G.Front m (t ∷ r) → s.first t ≡ true
  pub empty : (a : A) → G.Spells a [] → s.null ≡ true
  pub goes_on : (a : A) (pre : List T) (m : Last K) (t : T) (r : List T) → G.Spells a pre → G.Front m (pre ++ t ∷ r) → s.more t ≡ true
  pub single : (a b : A) (ts : List T) → G.Spells a ts → G.Spells b ts → a ≡ b
  pub last : (k : K) (pre : List T) (m : Last K) (r : List T) → G.Front (faulty k) pre → G.Front m (pre ++ r) → (r ≡ []) × (m ≡ faulty k)

-- the empty list is no fault
pub fault-nil : {T K A : Type 0} (G : Rule T K A) (s : Sight T) → Clear G s → (k : K) → G.Front (faulty k) [] → ⊥
fault-nil G s c k h = let e = (c.last k [] fits [] h c.fronts.nil).1 in cc
