-- A choice of many forms that begin apart is read.
use Rattle.std.proofs.Common.{◌≡◌, Bool, true, false, List, [], ◌∷◌, Option, Some, None, is_some, refl, sym, ap, ◌∙◌, inl, inr}
use Rattle.grammar_rules.specs.Rules.{Rule, Last, alternatives}
use Rattle.grammar_rules.specs.Readers.{Outcome, failed}
use Rattle.grammar_rules.proofs.Clear.{Sight, Clear}
use Rattle.grammar_rules.proofs.Alternatives.{Parted, clear-alternatives}
use Rattle.grammar_rules.proofs.Right.{Right}
use Rattle.grammar_rules.proofs.Reading.{Reads, right-alternative}
use Rattle.sql_grammar.specs.Forms.{read_form, read_one_of}

-- `which` tells the form that a symbol begins, and no form is empty
pub record Told {T I : Type 0} (each : I → Sight T) (which : T → Option I) (goes_on : T → Bool) : Type 0 where
  pub begins : (i : I) (t : T) → (each i).first t ≡ true → which t ≡ Some i
  pub tells : (i : I) (t : T) → which t ≡ Some i → (each i).first t ≡ true
  pub wants : (i : I) → (each i).null ≡ false
  pub more : (i : I) (t : T) → (each i).more t ≡ true → goes_on t ≡ true

module _ {T K A I : Type 0} (G : I → Rule T K A) (each : I → Sight T) (which : T → Option I) (more : T → Bool) (read : I → List T → Outcome T K A) (told : Told each which more) (g : (i : I) → Reads (G i) (each i) (read i)) where
  abbrev one_sight : Sight T
  one_sight = record { first = λ t. is_some (which t); null = false; more = more }

  never_empty : (i : I) → (each i).null ≡ true → ⊥
  never_empty i e = let f = told.wants i in cc

  one_form : (i j : I) (t : T) → (each i).first t ≡ true → (each j).first t ≡ true → i ≡ j
  one_form i j t e f =
      let p : Some i ≡ Some j = sym (told.begins i t e) ∙ told.begins j t f in cc

  parted_forms : Parted each one_sight
  parted_forms = record {
    distinct = one_form;
    one_null = λ i j e f. absurd (never_empty i e);
    first = λ i t e. rw (told.begins i t e) refl;
    null = λ i e. absurd (never_empty i e);
    more = told.more;
    cross = λ i j t e f. absurd (never_empty i e);
  }

  clear_forms : Clear (alternatives G) one_sight
  clear_forms = clear-alternatives G each one_sight (λ i. (g i).clear) parted_forms

  exact_form : (t : T) (o : Option I) → which t ≡ o → is_some o ≡ true → (m : Last K) × (alternatives G).Front m (t ∷ [])
  exact_form t None q e = cc
  exact_form t (Some i) q e = let f = (g i).exact t (told.tells i t q) in (f.0, inr (i, f.1))

  -- no form begins here
  refused_forms : (ts : List T) → ((t : T) (r : List T) → ts ≡ t ∷ r → which t ≡ None) → Right (alternatives G) ts (failed None ts)
  refused_forms ts none = record {
    pre = [];
    is = refl;
    front = inl (refl, refl);
    stops = λ t r m x q f.
        let a = none t r q in
        let b : is_some (which t) ≡ true = clear_forms.starts m t x f in
        let c : is_some (which t) ≡ false = rw a refl in
        let d : true ≡ false = sym b ∙ c in cc;
    unspelled = λ a w. let b : false ≡ true = clear_forms.empty a w in cc;
  }

  only_form : (i : I) (t : T) (ts : List T) → which t ≡ Some i → (j : I) (m : Last K) (u : T) (r x : List T) → t ∷ ts ≡ u ∷ r → (G j).Front m (u ∷ x) → j ≡ i
  only_form i t ts q j m u r x e f =
      let a = told.begins j u ((g j).clear.starts m u x f) in
      let p : t ≡ u = cc in
      let c : Some j ≡ Some i = sym a ∙ (ap which (sym p) ∙ q) in cc

  right_form : (t : T) (ts : List T) (o : Option I) → which t ≡ o → Right (alternatives G) (t ∷ ts) (read_form read o (t ∷ ts))
  right_form t ts None q = refused_forms (t ∷ ts) (λ u r e. let p : t ≡ u = cc in ap which (sym p) ∙ q)
  right_form t ts (Some i) q =
      right-alternative G (λ j. (g j).clear.fronts) i (t ∷ ts) (only_form i t ts q)
      (λ j a w. absurd (never_empty j ((g j).clear.empty a w)))
      (read i (t ∷ ts)) ((g i).right (t ∷ ts))

  right_forms : (ts : List T) → Right (alternatives G) ts (read_one_of which read ts)
  right_forms [] = refused_forms [] (λ t r e. cc)
  right_forms (t ∷ ts) = right_form t ts (which t) refl

  pub reads-one_of : Reads (alternatives G) (record { first = λ t. is_some (which t); null = false; more = more }) (read_one_of which read)
  reads-one_of = record {
    clear = clear_forms;
    exact = λ t e. exact_form t (which t) refl e;
    empty = λ e. cc;
    right = right_forms;
  }
