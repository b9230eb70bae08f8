-- A whole query, as the parser reads it.
use Rattle.std.proofs.Common.{◌≡◌, ℕ, Bool, true, false, List, [], ◌∷◌, ◌++◌, drop, Some, None, Option, refl, sym, ap, subst, ◌∙◌}
use Rattle.sql_tokens.specs.declared.class.Class.TheVariants as k
use Rattle.sql_tokens.specs.declared.class.Class.{Class}
use Rattle.sql_tokens.specs.Classes.{same_class}
use Rattle.sql_tokens.proofs.ClassLaws.{same_is}
use Rattle.sql_tokens.specs.Cutting.{Symbol, first_class}
use Rattle.sql_grammar.specs.declared.tree.Expr.{Expr}
use Rattle.sql_grammar.specs.declared.tree.Name.{Name}
use Rattle.sql_grammar.specs.declared.tree.Step.{Step}
use Rattle.grammar_rules.specs.Readers.{Outcome, found, failed, read_made, read_terminal, read_optional, unless_found, starts}
use Rattle.grammar_rules.specs.CountedReaders.{read_given}
use Rattle.sql_grammar.specs.Marks.{Fault, class, of, name, name_of, is_name, is_path_name, is_source}
use Rattle.sql_grammar.specs.Expressions.{word}
use Rattle.sql_grammar.specs.Queries.{Selected, everything, everything_of, selected, Written, written_of}
use Rattle.sql_grammar.specs.Readers.{begins, is_step}
use Rattle.sql_grammar.specs.QueryReaders.{read_items, read_all_of_name, read_list, read_named_step, read_element_rest, read_all_rest, read_steps, read_own_steps, read_bracket_steps, read_source_steps, begins_alias, read_name, read_alias, read_source, read_filter, read_limit, read_ending, read_behind_list, read_whole_query}
use Rattle.sql_leaves.specs.Parsing.{name_at}
use Rattle.select_sql.specs.Written.{IsFailed, AllOfName}
use Rattle.sql_leaves.proofs.CountedSteps.{first_begins}
use Rattle.sql_expressions.proofs.PrimarySteps.{not_false}
use Rattle.sql_leaves.proofs.WordSteps.{word_made}

-- ---- `name . *`

pub all_unnamed : (ts : List Symbol) → is_path_name (first_class ts) ≡ false → AllOfName ts None
unfolding read_all_of_name
all_unnamed [] h = tt
all_unnamed (s ∷ ts) h = rw h tt

pub all_undotted : (ts left : List Symbol) → is_path_name (first_class ts) ≡ true → left ≡ drop 1 ts → starts (of k.Dot) left ≡ false → AllOfName ts None
unfolding read_all_of_name
all_undotted [] left h l g = let p : false ≡ true = h in cc
all_undotted (s ∷ ts) left h l g = let d : starts (of k.Dot) ts ≡ false = rw (← l) g in rw (h, d) tt

pub all_unstarred : (ts left rest : List Symbol) → is_path_name (first_class ts) ≡ true → left ≡ drop 1 ts → starts (of k.Dot) left ≡ true → rest ≡ drop 1 left → starts (of k.Star) rest ≡ false → AllOfName ts None
unfolding read_all_of_name
all_unstarred [] left rest h l g r f = let p : false ≡ true = h in cc
all_unstarred (s ∷ ts) left rest h l g r f =
    let d : starts (of k.Dot) ts ≡ true = rw (← l) g in
    let e : starts (of k.Star) (drop 1 ts) ≡ false = rw (← l, ← r) f in
    rw (h, d, e) tt

pub all_starred : (ts left rest : List Symbol) (a : Name) → is_path_name (first_class ts) ≡ true → a ≡ name_at ts → left ≡ drop 1 ts → starts (of k.Dot) left ≡ true → rest ≡ drop 1 left → starts (of k.Star) rest ≡ true → AllOfName ts (Some a)
unfolding read_all_of_name
all_starred [] left rest a h n l g r f = let p : false ≡ true = h in cc
all_starred (s ∷ ts) left rest a h n l g r f =
    let d : starts (of k.Dot) ts ≡ true = rw (← l) g in
    let e : starts (of k.Star) (drop 1 ts) ≡ true = rw (← l, ← r) f in
    rw (h, d, e, n) refl

-- ---- what is selected

module _ (n : ℕ) (ts : List Symbol) where
  pub list_everything : (left : List Symbol) → starts (of k.Star) ts ≡ true → left ≡ drop 1 ts → read_list n ts ≡ found (everything, n) left
  unfolding read_list
  list_everything left h l = rw (l, h) (starred ts h)
    where
      starred : (us : List Symbol) → starts (of k.Star) us ≡ true → read_made {B = Selected × ℕ} (λ a. (a, n)) (read_made (λ s. everything) (read_terminal (word k.Star) us)) ≡ found (everything, n) (drop 1 us)
      starred us g = ap (read_made (λ a. (a, n))) (word_made k.Star everything us g)

  pub list_named : (a : Name) (left : List Symbol) → starts (of k.Star) ts ≡ false → AllOfName ts (Some a) → left ≡ drop 1 (drop 1 (drop 1 ts)) → read_list n ts ≡ found (everything_of a, n) left
  unfolding read_list
  list_named a left h g l = rw (l, h, g) refl

  pub list_items : starts (of k.Star) ts ≡ false → AllOfName ts None → read_list n ts ≡ read_given selected read_items n ts
  unfolding read_list
  list_items h g = rw h (unnamed (read_all_of_name ts) (read_given selected read_items n ts) g)
    where
      unnamed : (o : Outcome Symbol Fault Name) (other : Outcome Symbol Fault (Selected × ℕ)) → IsFailed o → unless_found (read_made {B = Selected × ℕ} (λ a. (a, n)) (read_made everything_of o)) other ≡ other
      unnamed (found a left) other g = absurd g
      unnamed (failed j left) other g = refl

-- ---- the limit and the semicolon

module _ (ts : List Symbol) where
  pub ending_failed : (j : Option Fault) (left : List Symbol) → read_limit ts ≡ failed j left → read_ending ts ≡ failed j left
  unfolding read_ending
  ending_failed j left h = rw h refl

  module _ (o : Option ℕ) (left : List Symbol) (h : read_limit ts ≡ found o left) where
    pub ending_closed : (rest : List Symbol) → starts (of k.Semicolon) left ≡ true → rest ≡ drop 1 left → read_ending ts ≡ found o rest
    unfolding read_ending
    ending_closed rest g l = rw (h, l, g) (closed left g)
      where
        closed : (us : List Symbol) → starts (of k.Semicolon) us ≡ true → read_made (λ s. o) (read_made Some (read_terminal (word k.Semicolon) us)) ≡ found o (drop 1 us)
        closed [] q = let p : false ≡ true = q in cc
        closed (s ∷ us) q = rw q refl

    pub ending_open : starts (of k.Semicolon) left ≡ false → read_ending ts ≡ found o left
    unfolding read_ending
    ending_open g = rw (h, g) refl

-- ---- FROM and what follows

module _ (l : Selected) (n : ℕ) (ts : List Symbol) where
  pub behind_none : starts (of k.From) ts ≡ false → read_given (λ p. written_of l p.0 p.1.0 p.1.1) read_behind_list n ts ≡ failed None ts
  unfolding read_behind_list
  behind_none h = rw h refl

  module _ (from : starts (of k.From) ts ≡ true) (left : List Symbol) (passed : left ≡ drop 1 ts) where
    pub behind_sourceless : is_source (first_class left) ≡ false → read_given (λ p. written_of l p.0 p.1.0 p.1.1) read_behind_list n ts ≡ failed None left
    unfolding read_behind_list read_source
    behind_sourceless h = rw (from, ← passed, sym (first_begins is_source refl left) ∙ h) refl

    module _ (source : is_source (first_class left) ≡ true) (rest : List Symbol) (beyond : rest ≡ drop 1 left) where
      pub behind_steps : (j : Option Fault) (us : List Symbol) → read_source_steps n rest ≡ failed j us → read_given (λ p. written_of l p.0 p.1.0 p.1.1) read_behind_list n ts ≡ failed j us
      unfolding read_behind_list read_source
      behind_steps j us h = rw (from, ← passed, sym (first_begins is_source refl left) ∙ source, ← beyond, h) refl

      module _ (steps : List Step) (us : List Symbol) (h : read_source_steps n rest ≡ found (steps, n) us) where
        pub behind_alias : (j : Option Fault) (vs : List Symbol) → read_alias n us ≡ failed j vs → read_given (λ p. written_of l p.0 p.1.0 p.1.1) read_behind_list n ts ≡ failed j vs
        unfolding read_behind_list read_source
        behind_alias j vs g = rw (from, ← passed, sym (first_begins is_source refl left) ∙ source, ← beyond, h, g) refl

        module _ (a : Option Name) (vs : List Symbol) (g : read_alias n us ≡ found (a, n) vs) where
          pub behind_filter : (j : Option Fault) (ws : List Symbol) → read_filter n vs ≡ failed j ws → read_given (λ p. written_of l p.0 p.1.0 p.1.1) read_behind_list n ts ≡ failed j ws
          unfolding read_behind_list read_source
          behind_filter j ws f = rw (from, ← passed, sym (first_begins is_source refl left) ∙ source, ← beyond, h, g, f) refl

          module _ (w : Option Expr) (m : ℕ) (ws : List Symbol) (f : read_filter n vs ≡ found (w, m) ws) where
            pub behind_ending : (j : Option Fault) (xs : List Symbol) → read_ending ws ≡ failed j xs → read_given (λ p. written_of l p.0 p.1.0 p.1.1) read_behind_list n ts ≡ failed j xs
            unfolding read_behind_list read_source
            behind_ending j xs e = rw (from, ← passed, sym (first_begins is_source refl left) ∙ source, ← beyond, h, g, f, e) refl

            pub behind_found : (o : Option ℕ) (xs : List Symbol) → read_ending ws ≡ found o xs → read_given (λ p. written_of l p.0 p.1.0 p.1.1) read_behind_list n ts ≡ found (written_of l (steps, a) w o, m) xs
            unfolding read_behind_list read_source
            behind_found o xs e = rw (from, ← passed, sym (first_begins is_source refl left) ∙ source, ← beyond, h, g, f, e) refl

-- ---- SELECT

module _ (n : ℕ) (ts : List Symbol) where
  pub whole_none : starts (of k.Select) ts ≡ false → read_whole_query n ts ≡ failed None ts
  unfolding read_whole_query
  whole_none h = rw h refl

  module _ (select : starts (of k.Select) ts ≡ true) (left : List Symbol) (passed : left ≡ drop 1 ts) where
    pub whole_listless : (j : Option Fault) (rest : List Symbol) → read_list n left ≡ failed j rest → read_whole_query n ts ≡ failed j rest
    unfolding read_whole_query
    whole_listless j rest h = rw (select, ← passed, h) refl

    pub whole_listed : (l : Selected) (m : ℕ) (rest : List Symbol) → read_list n left ≡ found (l, m) rest → read_whole_query n ts ≡ read_given (λ p. written_of l p.0 p.1.0 p.1.1) read_behind_list m rest
    unfolding read_whole_query
    whole_listed l m rest h = rw (select, ← passed, h) (twice (read_behind_list m rest))
      where
        twice : (o : Outcome Symbol Fault (((List Step × Option Name) × (Option Expr × Option ℕ)) × ℕ)) → read_made {B = Written × ℕ} (λ p. (written_of p.0.0 p.0.1.0 p.0.1.1.0 p.0.1.1.1, p.1)) (read_made {B = (Selected × ((List Step × Option Name) × (Option Expr × Option ℕ))) × ℕ} (λ q. ((l, q.0), q.1)) o) ≡ read_made (λ p. (written_of l p.0.0 p.0.1.0 p.0.1.1, p.1)) o
        twice (found p us) = refl
        twice (failed j us) = refl

-- ---- the source's name

by_alias : (c : Class) → is_name c ≡ false → same_class k.As c ≡ false → begins_alias c ≡ false
unfolding same_class
by_alias k.As h g = absurd (not_false g)
by_alias _ h g = h

no_alias : (ts : List Symbol) → starts (of k.As) ts ≡ false → is_name (first_class ts) ≡ false → starts (begins begins_alias) ts ≡ false
no_alias [] g h = refl
no_alias (s ∷ ts) g h = by_alias (class s) h g

some_alias : (ts : List Symbol) → starts (of k.As) ts ≡ true → starts (begins begins_alias) ts ≡ true
some_alias [] g = g
some_alias (s ∷ ts) g = let q : k.As ≡ class s = same_is k.As (class s) g in rw (← q) refl

module _ (n : ℕ) (ts : List Symbol) where
  pub alias_failed : (left : List Symbol) → starts (of k.As) ts ≡ true → left ≡ drop 1 ts → (j : Option Fault) (rest : List Symbol) → read_terminal name left ≡ failed j rest → read_alias n ts ≡ failed j rest
  unfolding read_alias read_name
  alias_failed left g l j rest h = rw (some_alias ts g, g, ← l, h) refl

  pub alias_found : (left : List Symbol) → starts (of k.As) ts ≡ true → left ≡ drop 1 ts → (a : Name) (rest : List Symbol) → read_terminal name left ≡ found a rest → read_alias n ts ≡ found (Some a, n) rest
  unfolding read_alias read_name
  alias_found left g l a rest h = rw (some_alias ts g, g, ← l, h) refl

  pub alias_none : starts (of k.As) ts ≡ false → is_name (first_class ts) ≡ false → read_alias n ts ≡ found (None, n) ts
  unfolding read_alias
  alias_none g h = rw (no_alias ts g h) refl

-- ---- the same tokens

pub all_moved : (us ts : List Symbol) (o p : Option Name) → us ≡ ts → o ≡ p → AllOfName us o → AllOfName ts p
all_moved us ts o p e f h = subst (λ z. AllOfName z p) e (subst (λ y. AllOfName us y) f h)

-- ---- the steps of the source

-- nothing before the rest
onto_nothing : (o : Outcome Symbol Fault (List Step × ℕ)) → read_made {B = List Step × ℕ} (λ p. ([] ++ p.0, p.1)) o ≡ o
onto_nothing (found p left) = refl
onto_nothing (failed j left) = refl

pub onto_one : (all : List Step) (a : Step) (most n : ℕ) (ts : List Symbol) → all ≡ [] ++ a ∷ [] → read_given (λ rest. a ∷ rest) (read_steps most) n ts ≡ read_given (λ rest. all ++ rest) (read_steps most) n ts
onto_one all a most n ts e = rw e refl

module _ (n : ℕ) (ts : List Symbol) (a : Step) (left : List Symbol) where
  pub bracket_all : (all : List Step) → all ≡ [] → starts (of k.Star) ts ≡ true → read_all_rest n ts ≡ found (a, n) left → read_bracket_steps n ts ≡ read_given (λ rest. all ++ rest) (read_steps 64) n left
  unfolding read_bracket_steps
  bracket_all all e g h = rw (e, g, h) (sym (onto_nothing (read_steps 64 n left)))

  pub bracket_own : starts (of k.Star) ts ≡ false → read_element_rest n ts ≡ found (a, n) left → read_bracket_steps n ts ≡ read_given (λ rest. a ∷ rest) (read_steps 63) n left
  unfolding read_bracket_steps read_own_steps
  bracket_own g h = rw (g, h) refl

  pub source_own : is_step (first_class ts) ≡ true → starts (of k.Dot) ts ≡ true → read_named_step n ts ≡ found (a, n) left → read_source_steps n ts ≡ read_given (λ rest. a ∷ rest) (read_steps 63) n left
  unfolding read_source_steps read_own_steps
  source_own f g h = rw (sym (first_begins is_step refl ts) ∙ f, g, h) refl
