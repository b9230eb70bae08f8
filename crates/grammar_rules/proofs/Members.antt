-- Members in any order, each at most once.
use Rattle.std.proofs.Common.{◌≡◌, ◌<◌, ◌||◌, ◌&&◌, Bool, true, false, List, [], ◌∷◌, ◌++◌, length, Option, Some, None, is_some, refl, sym, ap, ◌∙◌, subst, inl, inr, arith, length-append}
use Rattle.grammar_rules.specs.Rules.{Rule, Last, made, allowed, member}
use Rattle.grammar_rules.specs.Readers.{Outcome, failed, read_made, starts, chosen, is_free, read_named, read_member}
use Rattle.grammar_rules.proofs.Clear.{Sight, Clear}
use Rattle.grammar_rules.proofs.Alternatives.{Parted, clear-alternatives}
use Rattle.grammar_rules.proofs.Terminals.{clear-terminal, clear-made}
use Rattle.grammar_rules.proofs.Right.{FoundAt, Right, right-made}
use Rattle.grammar_rules.proofs.Reading.{Exact, right-alternative}
use Rattle.grammar_rules.proofs.Many.{Shrinks}

-- the lookahead of a rule where it is allowed
abbrev pub allowed_sight : {T : Type 0} → Bool → Sight T → Sight T
allowed_sight true s = s
allowed_sight false s = record { first = λ t. false; null = false; more = λ t. false }

pub clear-allowed : {T K A : Type 0} (b : Bool) (G : Rule T K A) (s : Sight T) → Clear G s → Clear (allowed b G) (allowed_sight b s)
clear-allowed true G s g = g
clear-allowed false G s g = clear-terminal _

-- `which` tells the member that a symbol begins, no member is empty, and no symbol both goes on with
-- a member and begins one; `tail` passes what a member may go on with
pub record Named {T I : Type 0} (each : I → Sight T) (which : T → Option I) (tail : T → Bool) : Type 0 where
  pub begins : (i : I) (t : T) → (each i).first t ≡ true → which t ≡ Some i
  pub tells : (i : I) (t : T) → which t ≡ Some i → (each i).first t ≡ true
  pub wants : (i : I) → (each i).null ≡ false
  pub more : (i : I) (t : T) → (each i).more t ≡ true → tail t ≡ true
  pub apart : (t : T) → (tail t && is_some (which t)) ≡ false

-- the lookahead of one of the free members, and of all of them in any order
abbrev pub member_sight : {T I : Type 0} → (T → Option I) → (T → Bool) → (I → Bool) → Sight T
member_sight which tail free = record { first = λ t. is_free free (which t); null = false; more = tail }

abbrev pub members_sight : {T I : Type 0} → (T → Option I) → (T → Bool) → (I → Bool) → Sight T
members_sight which tail free = record { first = λ t. is_free free (which t); null = true; more = λ t. is_some (which t) || tail t }

-- the same, whichever are free
abbrev pub any_sight : {T I : Type 0} → (T → Option I) → (T → Bool) → Sight T
any_sight which tail = record { first = λ t. is_some (which t); null = true; more = λ t. is_some (which t) || tail t }

pub is_free-some : {I : Type 0} (free : I → Bool) (o : Option I) → is_free free o ≡ true → is_some o ≡ true
is_free-some free None e = cc
is_free-some free (Some i) e = refl

module _ {T K A I : Type 0} (G : I → Rule T K A) (each : I → Sight T) (which : T → Option I) (tail : T → Bool) (named : Named each which tail) (g : (i : I) → Clear (G i) (each i)) where
  module _ (free : I → Bool) where
    first_allowed : (i : I) (b : Bool) (t : T) → (allowed_sight b (each i)).first t ≡ true → (which t ≡ Some i) × (b ≡ true)
    first_allowed i true t e = (named.begins i t e, refl)
    first_allowed i false t e = cc

    null_allowed : (i : I) (b : Bool) → (allowed_sight b (each i)).null ≡ true → ⊥
    null_allowed i true e = let f = named.wants i in cc
    null_allowed i false e = cc

    more_allowed : (i : I) (b : Bool) (t : T) → (allowed_sight b (each i)).more t ≡ true → tail t ≡ true
    more_allowed i true t e = named.more i t e
    more_allowed i false t e = cc

    distinct_members : (i j : I) (t : T) → (allowed_sight (free i) (each i)).first t ≡ true → (allowed_sight (free j) (each j)).first t ≡ true → i ≡ j
    distinct_members i j t e f =
        let a = (first_allowed i (free i) t e).0 in
        let b = (first_allowed j (free j) t f).0 in
        let c : Some i ≡ Some j = sym a ∙ b in cc

    first_member : (i : I) (t : T) → (allowed_sight (free i) (each i)).first t ≡ true → is_free free (which t) ≡ true
    first_member i t e =
        let a = first_allowed i (free i) t e in rw (a.0, a.1)

    parted_members : Parted (λ i. allowed_sight (free i) (each i)) (member_sight which tail free)
    parted_members = record {
      distinct = distinct_members;
      one_null = λ i j e f. absurd (null_allowed i (free i) e);
      first = first_member;
      null = λ i e. absurd (null_allowed i (free i) e);
      more = λ i t e. more_allowed i (free i) t e;
      cross = λ i j t e f. absurd (null_allowed i (free i) e);
    }

    clear_one : (i : I) → Clear (made {B = I × A} (λ a. (i, a)) (allowed (free i) (G i))) (allowed_sight (free i) (each i))
    clear_one i = clear-made (λ a. (i, a)) (allowed (free i) (G i)) (allowed_sight (free i) (each i)) (clear-allowed (free i) (G i) (each i) (g i))

    pub clear-member : Clear (member G free) (member_sight which tail free)
    clear-member =
        clear-alternatives (λ i. made (λ a. (i, a)) (allowed (free i) (G i))) (λ i. allowed_sight (free i) (each i)) (member_sight which tail free) clear_one parted_members

  module _ (read : I → List T → Outcome T K A) (exact : (i : I) → Exact (G i) (each i).first) (right : (i : I) (ts : List T) → Right (G i) ts (read i ts)) where
    exact_allowed : (free : I → Bool) (t : T) (o : Option I) → which t ≡ o → is_free free o ≡ true → (m : Last K) × (member G free).Front m (t ∷ [])
    exact_allowed free t None q e = cc
    exact_allowed free t (Some i) q e =
        let f = exact i t (named.tells i t q) in
        (f.0, inr (i, subst (λ b. (allowed b (G i)).Front f.0 (t ∷ [])) (sym e) f.1))

    pub exact-member : (free : I → Bool) → Exact (member G free) (λ t. is_free free (which t))
    exact-member free t e = exact_allowed free t (which t) refl e

    -- no free member begins here
    refused_member : (free : I → Bool) (ts : List T) → starts (λ t. is_free free (which t)) ts ≡ false → Right (member G free) ts (failed None ts)
    refused_member free ts e = record {
      pre = [];
      is = refl;
      front = inl (refl, refl);
      stops = λ t r m x q f.
          let a : starts (λ t. is_free free (which t)) (t ∷ r) ≡ false = subst (λ l. starts (λ t. is_free free (which t)) l ≡ false) q e in
          let b = (clear-member free).starts m t x f in
          let c : true ≡ false = sym b ∙ a in cc;
      unspelled = λ a w. let b = (clear-member free).empty a w in cc;
    }

    only_named : (free : I → Bool) (i : I) (t : T) (ts : List T) → which t ≡ Some i → (j : I) (m : Last K) (u : T) (r x : List T) → t ∷ ts ≡ u ∷ r → (made {B = I × A} (λ a. (j, a)) (allowed (free j) (G j))).Front m (u ∷ x) → j ≡ i
    only_named free i t ts q j m u r x e f =
        let a = (first_allowed free j (free j) u ((clear_one free j).starts m u x f)).0 in
        let p : t ≡ u = cc in
        let c : Some j ≡ Some i = sym a ∙ (ap which (sym p) ∙ q) in cc

    right_free : (free : I → Bool) (i : I) (t : T) (ts : List T) → which t ≡ Some i → (b : Bool) → free i ≡ b → Right (member G free) (t ∷ ts) (chosen b (read_made (λ a. (i, a)) (read i (t ∷ ts))) (failed None (t ∷ ts)))
    right_free free i t ts q true e =
        right-alternative (λ j. made (λ a. (j, a)) (allowed (free j) (G j))) (λ j. (clear_one free j).fronts) i (t ∷ ts)
        (only_named free i t ts q)
        (λ j a w. absurd (null_allowed free j (free j) ((clear_one free j).empty a w)))
        (read_made (λ a. (i, a)) (read i (t ∷ ts)))
        (right-made (λ a. (i, a)) (allowed (free i) (G i)) (t ∷ ts) (read i (t ∷ ts))
        (subst (λ b. Right (allowed b (G i)) (t ∷ ts) (read i (t ∷ ts))) (sym e) (right i (t ∷ ts))))
    right_free free i t ts q false e = refused_member free (t ∷ ts) (rw (q, e))

    right_named : (free : I → Bool) (t : T) (ts : List T) (o : Option I) → which t ≡ o → Right (member G free) (t ∷ ts) (read_named read free o (t ∷ ts))
    right_named free t ts None q = refused_member free (t ∷ ts) (rw q)
    right_named free t ts (Some i) q = right_free free i t ts q (free i) refl

    pub right-member : (free : I → Bool) (ts : List T) → Right (member G free) ts (read_member which read free ts)
    right-member free [] = refused_member free [] refl
    right-member free (t ∷ ts) = right_named free t ts (which t) refl

    less_pre : (free : I → Bool) (a : I × A) (pre left ts : List T) → (member G free).Spells a pre → ts ≡ pre ++ left → length left < length ts
    less_pre free a [] left ts w e = let q = (clear-member free).empty a w in cc
    less_pre free a (t ∷ pre) left ts w e = rw e (omega (arith, length-append pre left))

    pub shrinks-member : (free : I → Bool) → Shrinks (read_member which read free)
    shrinks-member free ts a left e =
        let w : FoundAt (member G free) ts a left = subst (λ o. Right (member G free) ts o) e (right-member free ts) in
        less_pre free a w.pre left ts w.spells w.is
