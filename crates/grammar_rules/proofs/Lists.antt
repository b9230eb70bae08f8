-- Two cuts of one list, and tests that are joined.
use Rattle.std.proofs.Common.{◌≡◌, ◌||◌, ◌&&◌, Bool, true, false, List, [], ◌∷◌, ◌++◌, refl, sym}

-- where the cut of c ++ d lies in a ++ b: behind a's end, at it, or before it
pub data Cut {T : Type 0} (a b c d : List T) : Type 0 where
  beyond : (t : T) (x : List T) → c ≡ a ++ t ∷ x → b ≡ t ∷ x ++ d → Cut a b c d
  equal : a ≡ c → b ≡ d → Cut a b c d
  inside : (t : T) (x : List T) → a ≡ c ++ t ∷ x → d ≡ t ∷ x ++ b → Cut a b c d

-- the same behind one more symbol
cut_behind : {T : Type 0} {t u : T} {a b c d : List T} → t ≡ u → Cut a b c d → Cut (t ∷ a) b (u ∷ c) d
cut_behind p (beyond w x e f) = beyond w x (cc) f
cut_behind p (equal e f) = equal (cc) f
cut_behind p (inside w x e f) = inside w x (cc) f

-- two cuts of one list lie so
pub cut : {T : Type 0} (a b c d : List T) → a ++ b ≡ c ++ d → Cut a b c d
cut [] b [] d e = equal refl e
cut [] b (t ∷ c) d e = beyond t c refl e
cut (t ∷ a) b [] d e = inside t a refl (sym e)
cut (t ∷ a) b (u ∷ c) d e =
    let p : t ≡ u = cc in
    let q : a ++ b ≡ c ++ d = cc in
    cut_behind p (cut a b c d q)

pub or_left : (a b : Bool) → a ≡ true → (a || b) ≡ true
or_left a b e = rw e

pub or_right : (a b : Bool) → b ≡ true → (a || b) ≡ true
or_right true b e = refl
or_right false b e = e

pub and_both : (a b : Bool) → a ≡ true → b ≡ true → (a && b) ≡ true
and_both a b e f = rw (e, f)

-- two tests that never pass together do not pass together
pub apart : (a b : Bool) → (a && b) ≡ false → a ≡ true → b ≡ true → ⊥
apart true true e f g = cc
apart true false e f g = cc
apart false b e f g = cc
