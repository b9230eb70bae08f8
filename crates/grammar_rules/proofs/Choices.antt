-- The alternative of two rules, and of a rule and nothing.
use Rattle.std.proofs.Common.{◌≡◌, ◌||◌, ◌&&◌, ◌⊎◌, Bool, true, false, List, [], ◌∷◌, Some, None, refl, subst, inl, inr}
use Rattle.grammar_rules.specs.Rules.{Rule, Last, nothing, made, either, one_of_two, optional}
use Rattle.grammar_rules.specs.Readers.{Outcome, found, read_made, starts, chosen, read_either, read_optional}
use Rattle.grammar_rules.proofs.Lists.{or_left, or_right, and_both, apart}
use Rattle.grammar_rules.proofs.Clear.{Closed, Sight, Clear}
use Rattle.grammar_rules.proofs.Alternatives.{Parted, clear-alternatives, closed-alternatives}
use Rattle.grammar_rules.proofs.Terminals.{nothing_sight}
use Rattle.grammar_rules.proofs.Right.{Right}
use Rattle.grammar_rules.proofs.Reading.{Exact, Reads, right-alternative, or_cases, reads-made, reads-nothing}

-- the lookahead of the alternative of two
abbrev pub either_sight : {T : Type 0} → Sight T → Sight T → Sight T
either_sight s t = record {
  first = λ x. s.first x || t.first x;
  null = s.null || t.null;
  more = λ x. (s.more x || t.more x) || ((s.null || t.null) && (s.first x || t.first x));
}

-- the first lookahead at true, the second at false
abbrev pub sight_of_two : {T : Type 0} → Sight T → Sight T → Bool → Sight T
sight_of_two s t true = s
sight_of_two s t false = t

-- no symbol begins both
abbrev pub Distinct : {T : Type 0} → Sight T → Sight T → Type 0
Distinct {T = T} s t = (x : T) → (s.first x && t.first x) ≡ false

module _ {T : Type 0} (s t : Sight T) (off : Distinct s t) (nulls : (s.null && t.null) ≡ false) where
  distinct_two : (i j : Bool) (x : T) → (sight_of_two s t i).first x ≡ true → (sight_of_two s t j).first x ≡ true → i ≡ j
  distinct_two true true x e f = refl
  distinct_two true false x e f = absurd (apart (s.first x) (t.first x) (off x) e f)
  distinct_two false true x e f = absurd (apart (s.first x) (t.first x) (off x) f e)
  distinct_two false false x e f = refl

  null_two : (i j : Bool) → (sight_of_two s t i).null ≡ true → (sight_of_two s t j).null ≡ true → i ≡ j
  null_two true true e f = refl
  null_two true false e f = absurd (apart s.null t.null nulls e f)
  null_two false true e f = absurd (apart s.null t.null nulls f e)
  null_two false false e f = refl

  first_two : (i : Bool) (x : T) → (sight_of_two s t i).first x ≡ true → (s.first x || t.first x) ≡ true
  first_two true x e = or_left (s.first x) (t.first x) e
  first_two false x e = or_right (s.first x) (t.first x) e

  empty_two : (i : Bool) → (sight_of_two s t i).null ≡ true → (s.null || t.null) ≡ true
  empty_two true e = or_left s.null t.null e
  empty_two false e = or_right s.null t.null e

  more_two : (i : Bool) (x : T) → (sight_of_two s t i).more x ≡ true → (either_sight s t).more x ≡ true
  more_two true x e = or_left (s.more x || t.more x) _ (or_left (s.more x) (t.more x) e)
  more_two false x e = or_left (s.more x || t.more x) _ (or_right (s.more x) (t.more x) e)

  pub parted_two : Parted (sight_of_two s t) (either_sight s t)
  parted_two = record {
    distinct = distinct_two;
    one_null = null_two;
    first = first_two;
    null = empty_two;
    more = more_two;
    cross = λ i j x e f. or_right (s.more x || t.more x) _ (and_both (s.null || t.null) (s.first x || t.first x) (empty_two i e) (first_two j x f));
  }

module _ {T K A : Type 0} (G H : Rule T K A) where
  pub closed-either : Closed G → Closed H → Closed (either G H)
  closed-either g h = closed-alternatives (one_of_two G H) (elim [ true ↦ g | false ↦ h ])

  pub clear-either : (s t : Sight T) → Clear G s → Clear H t → Distinct s t → (s.null && t.null) ≡ false → Clear (either G H) (either_sight s t)
  clear-either s t g h off nulls =
      let both : (i : Bool) → Clear (one_of_two G H i) (sight_of_two s t i) = elim [ true ↦ g | false ↦ h ] in
      clear-alternatives (one_of_two G H) (sight_of_two s t) (either_sight s t) both (parted_two s t off nulls)

  -- a reader that takes the first rule where the symbol passes the test, which tells it
  module _ (test : T → Bool) (g : Closed G) (h : Closed H)
      (begins : (m : Last K) (t : T) (x : List T) → G.Front m (t ∷ x) → test t ≡ true)
      (exact : Exact G test)
      (off : (m : Last K) (t : T) (x : List T) → test t ≡ true → H.Front m (t ∷ x) → ⊥)
      (wants : (a : A) → G.Spells a [] → ⊥) where
    only_first : (t : T) (ts : List T) → test t ≡ true → (j : Bool) (m : Last K) (u : T) (r x : List T) → t ∷ ts ≡ u ∷ r → (one_of_two G H j).Front m (u ∷ x) → j ≡ true
    only_first t ts e true m u r x q f = refl
    only_first t ts e false m u r x q f =
        let p : t ≡ u = cc in
        absurd (off m u x (subst (λ z. test z ≡ true) p e) f)

    null_first : (t : T) (ts : List T) → test t ≡ true → (j : Bool) (a : A) → (one_of_two G H j).Spells a [] → (j ≡ true) ⊎ ((u : T) × (r : List T) × (m : Last K) × (t ∷ ts ≡ u ∷ r) × G.Front m (u ∷ []))
    null_first t ts e true a w = inl refl
    null_first t ts e false a w = let f = exact t e in inr (t, ts, f.0, refl, f.1)

    only_second : (ts : List T) → starts test ts ≡ false → (j : Bool) (m : Last K) (u : T) (r x : List T) → ts ≡ u ∷ r → (one_of_two G H j).Front m (u ∷ x) → j ≡ false
    only_second ts e true m u r x q f =
        let k : starts test (u ∷ r) ≡ false = subst (λ z. starts test z ≡ false) q e in
        let b = begins m u x f in cc
    only_second ts e false m u r x q f = refl

    null_second : (ts : List T) (j : Bool) (a : A) → (one_of_two G H j).Spells a [] → (j ≡ false) ⊎ ((u : T) × (r : List T) × (m : Last K) × (ts ≡ u ∷ r) × H.Front m (u ∷ []))
    null_second ts true a w = absurd (wants a w)
    null_second ts false a w = inl refl

    right_chosen : (ts : List T) (o q : Outcome T K A) → Right G ts o → Right H ts q → (b : Bool) → starts test ts ≡ b → Right (either G H) ts (chosen b o q)
    right_chosen [] o q v w true e = absurd (let P : false ≡ true = e in cc)
    right_chosen (t ∷ ts) o q v w true e =
        right-alternative (one_of_two G H) (elim [ true ↦ g | false ↦ h ]) true (t ∷ ts) (only_first t ts e) (null_first t ts e) o v
    right_chosen ts o q v w false e =
        right-alternative (one_of_two G H) (elim [ true ↦ g | false ↦ h ]) false ts (only_second ts e) (null_second ts) q w

    pub right-either : (ts : List T) (o q : Outcome T K A) → Right G ts o → Right H ts q → Right (either G H) ts (chosen (starts test ts) o q)
    right-either ts o q v w = right_chosen ts o q v w (starts test ts) refl

module _ {T K A : Type 0} (G H : Rule T K A) (s t : Sight T) (read other : List T → Outcome T K A) (g : Reads G s read) (h : Reads H t other) (off : Distinct s t) (wants : s.null ≡ false) where
  exact_two : (u : T) → (s.first u ≡ true) ⊎ (t.first u ≡ true) → (m : Last K) × (either G H).Front m (u ∷ [])
  exact_two u (inl e) = let f = g.exact u e in (f.0, inr (true, f.1))
  exact_two u (inr e) = let f = h.exact u e in (f.0, inr (false, f.1))

  null_either : (s.null ≡ true) ⊎ (t.null ≡ true) → (a : A) × (either G H).Spells a []
  null_either (inl e) = let w = g.empty e in (w.0, (true, w.1))
  null_either (inr e) = let w = h.empty e in (w.0, (false, w.1))

  not_empty : (a : A) → G.Spells a [] → ⊥
  not_empty a w = let e = g.clear.empty a w in cc

  pub reads-either : Reads (either G H) (either_sight s t) (read_either s.first read other)
  reads-either = record {
    clear = clear-either G H s t g.clear h.clear off (rw wants);
    exact = λ u e. exact_two u (or_cases (s.first u) (t.first u) e);
    empty = λ e. null_either (or_cases s.null t.null e);
    right = λ ts.
        right-either G H s.first g.clear.fronts h.clear.fronts g.clear.starts g.exact
        (λ m u x e f. apart (s.first u) (t.first u) (off u) e (h.clear.starts m u x f)) not_empty
        ts (read ts) (other ts) (g.right ts) (h.right ts);
  }

-- the lookahead of the alternative of a rule and nothing
abbrev pub optional_sight : {T : Type 0} → Sight T → Sight T
optional_sight s = either_sight s nothing_sight

and_false : (b : Bool) → (b && false) ≡ false
and_false true = refl
and_false false = refl

pub reads-optional : {T K A : Type 0} (G : Rule T K A) (s : Sight T) (read : List T → Outcome T K A) → Reads G s read → s.null ≡ false → Reads (optional G) (optional_sight s) (read_optional s.first read)
reads-optional G s read g wants =
    reads-either (made Some G) (nothing None) s nothing_sight (λ ts. read_made Some (read ts)) (λ ts. found None ts)
    (reads-made Some G s read g) (reads-nothing None) (λ x. and_false (s.first x)) wants
