-- A right outcome gives the text's value or its first fault with the exact place; there is one answer.
use Rattle.std.proofs.Common.{◌≡◌, ℕ, zero, suc, ◌+◌, ◌-◌, ◌<◌, ◌≤◌, List, [], ◌∷◌, ◌++◌, length, take, drop, Option, Some, None, refl, sym, ap, ◌∙◌, subst, append_assoc, append-nil, arith, length-append}
use Rattle.grammar_rules.specs.Rules.{Rule, Last, fits, faulty}
use Rattle.grammar_rules.specs.Readers.{Outcome, found, failed, answer, answer_named}
use Rattle.grammar_rules.specs.Places.{RefusedThere, FaultyThere, value, refusal, Answers, named_first, AnswersNamed}
use Rattle.grammar_rules.proofs.Clear.{Closed}
use Rattle.grammar_rules.proofs.Right.{Stops, Right}

-- the place behind pre
pub place_behind : {T : Type 0} (pre left : List T) → length (pre ++ left) - length left ≡ length pre
place_behind pre left = omega (arith, length-append pre left)

pub take_front : {T : Type 0} (pre left : List T) → take (length pre) (pre ++ left) ≡ pre
take_front [] left = refl
take_front (t ∷ pre) left = ap (λ l. t ∷ l) (take_front pre left)

pub take_one_more : {T : Type 0} (pre : List T) (t : T) (left : List T) → take (length pre + 1) (pre ++ t ∷ left) ≡ pre ++ t ∷ []
take_one_more pre t left =
    let e : length pre + 1 ≡ length (pre ++ t ∷ []) = sym (length-append pre (t ∷ [])) in
    rw (e, ← append_assoc pre (t ∷ []) left) (take_front (pre ++ t ∷ []) left)

module _ {T K A : Type 0} (G : Rule T K A) (g : Closed G) where
  no_front : (pre left : List T) → Stops G pre left → length pre < length (pre ++ left) → (m : Last K) → G.Front m (take (length pre + 1) (pre ++ left)) → ⊥
  no_front pre [] st l m f = let e : length (pre ++ []) ≡ length pre = ap length (append-nil pre) in absurd (omega arith)
  no_front pre (t ∷ left) st l m f = st t left m [] refl (subst (λ z. G.Front m z) (take_one_more pre t left) f)

  -- a text that goes on where nothing goes on is no text
  no_text : (pre left : List T) → Stops G pre left → ((a : A) → G.Spells a pre → ⊥) → (a : A) → G.Spells a (pre ++ left) → ⊥
  no_text pre [] st un a w = un a (subst (λ z. G.Spells a z) (append-nil pre) w)
  no_text pre (t ∷ left) st un a w = st t left fits left refl (g.spelled a (pre ++ t ∷ left) w)

  no_longer_text : (pre : List T) (t : T) (left : List T) → Stops G pre (t ∷ left) → (a : A) → G.Spells a (pre ++ t ∷ left) → ⊥
  no_longer_text pre t left st a w = st t left fits left refl (g.spelled a (pre ++ t ∷ left) w)

  refused_place : (pre left : List T) → G.Front fits pre → Stops G pre left → ((a : A) → G.Spells a (pre ++ left) → ⊥) → RefusedThere G (pre ++ left) (length (pre ++ left) - length left)
  refused_place pre left f st un =
      rw (place_behind pre left) (record {
        within = omega (arith, length-append pre left);
        front = rw (take_front pre left) f;
        refused = no_front pre left st;
        unspelled = un;
      })

  faulty_place : (k : K) (pre : List T) (t : T) (left : List T) → G.Front (faulty k) (pre ++ t ∷ []) → FaultyThere G (pre ++ t ∷ left) k (length (pre ++ t ∷ left) - length (t ∷ left))
  faulty_place k pre t left f =
      rw (place_behind pre (t ∷ left)) (record {
        within = omega (arith, length-append pre (t ∷ left));
        front = rw (take_one_more pre t left) f;
      })

  pub answers : (ts : List T) (o : Outcome T K A) → Right G ts o → Answers G ts (answer (length ts) o)
  answers ts (found a []) w =
      let e : w.pre ≡ ts = sym (w.is ∙ append-nil w.pre) in
      subst (λ z. G.Spells a z) e w.spells
  answers ts (found a (t ∷ left)) w =
      subst (λ z. RefusedThere G z (length z - length (t ∷ left))) (sym w.is)
      (refused_place w.pre (t ∷ left) (g.spelled a w.pre w.spells) w.stops (no_longer_text w.pre t left w.stops))
  answers ts (failed None left) w =
      subst (λ z. RefusedThere G z (length z - length left)) (sym w.is)
      (refused_place w.pre left w.front w.stops (no_text w.pre left w.stops w.unspelled))
  answers ts (failed (Some k) left) w =
      let e : ts ≡ w.pre ++ w.at ∷ w.behind = w.is ∙ ap (λ l. w.pre ++ l) w.stands in
      rw (e, w.stands) (faulty_place k w.pre w.at w.behind w.front)

-- what is left stands behind as many symbols
pub left_over : {T : Type 0} (pre left : List T) → drop (length (pre ++ left) - length left) (pre ++ left) ≡ left
left_over [] left = let z : length left - length left ≡ 0 = omega arith in rw z refl
left_over (s ∷ pre) left =
    let n = length-append pre left in
    let z : suc (length (pre ++ left)) - length left ≡ suc (length (pre ++ left) - length left) = omega arith in
    rw z (left_over pre left)

module _ {T K A : Type 0} (G : Rule T K A) (g : Closed G) (name : T → Option K) (ts : List T) where
  named_there : (pre left : List T) → ts ≡ pre ++ left → named_first name (drop (length ts - length left) ts) ≡ named_first name left
  named_there pre left e = ap (named_first name) (ap (λ l. drop (length l - length left) l) e ∙ left_over pre left)

  -- a right outcome gives the answer whose refusals have names
  pub answers_named : (o : Outcome T K A) → Right G ts o → AnswersNamed name G ts (answer_named name (length ts) o)
  answers_named (found a []) w = (value a, answers G g ts (found a []) w, refl)
  answers_named (found a (t ∷ left)) w =
      (answer (length ts) (found a (t ∷ left)), answers G g ts (found a (t ∷ left)) w, ap (λ k. refusal k (length ts - length (t ∷ left))) (named_there w.pre (t ∷ left) w.is))
  answers_named (failed None left) w =
      (answer (length ts) (failed None left), answers G g ts (failed None left) w, ap (λ k. refusal k (length ts - length left)) (named_there w.pre left w.is))
  answers_named (failed (Some k) left) w = (answer (length ts) (failed (Some k) left), answers G g ts (failed (Some k) left) w, refl)

-- a longer front of a list is the shorter one and more
pub longer_front : {T : Type 0} (p q : ℕ) (ts : List T) → p < q → q ≤ length ts → (t : T) × (r : List T) × (take q ts ≡ take p ts ++ t ∷ r)
longer_front p zero ts l k = absurd (omega arith)
longer_front p (suc q) [] l k = absurd (omega arith)
longer_front zero (suc q) (t ∷ ts) l k = (t, take q ts, refl)
longer_front (suc p) (suc q) (t ∷ ts) l k =
    let w = longer_front p q ts (omega arith) (omega arith) in
    (w.0, w.1, ap (λ z. t ∷ z) w.2)
