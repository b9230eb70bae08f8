-- The steps of the parser of paths, as equations of its readers.
use Rattle.std.proofs.Common.{◌≡◌, ℕ, true, false, List, [], ◌∷◌, ◌++◌, ◌-◌, ◌<◌, length, drop, Option, Some, None, refl, sym, ◌∙◌}
use Rattle.sql_tokens.specs.declared.class.Class.TheVariants as k
use Rattle.sql_tokens.specs.Cutting.{Symbol, first_class}
use Rattle.sql_grammar.specs.declared.tree.Name.{Name}
use Rattle.sql_grammar.specs.declared.tree.PathStep.TheVariants as step
use Rattle.sql_grammar.specs.declared.tree.PathStep.{PathStep}
use Rattle.sql_grammar.specs.declared.tree.Expr.{Expr}
use Rattle.sql_grammar.specs.declared.tree.Expr.TheVariants as e
use Rattle.grammar_rules.specs.Readers.{Outcome, found, failed, starts, read_terminal}
use Rattle.grammar_rules.specs.CountedReaders.{read_links}
use Rattle.grammar_rules.proofs.CountedMany.{CountedShrinks, counted_shrinks, chain_begin, chain_fail, links_step, links_stop, links_fail}
use Rattle.sql_grammar.specs.Marks.{Fault, too_many, of, name, digits, name_of, is_path_name}
use Rattle.sql_grammar.specs.Expressions.{path_step}
use Rattle.sql_leaves.specs.Parsing.{name_at}
use Rattle.sql_grammar.specs.Readers.{begins, is_step, read_path_step, read_path_name, read_path}
use Rattle.sql_grammar.proofs.Combining.{on, one}
use Rattle.sql_grammar.proofs.PartReads.{reads-path_step}
use Rattle.sql_leaves.proofs.CountedSteps.{first_begins, counted_refused, counted_over, counted_taken}

-- behind the first token
module _ (ts after : List Symbol) (passed : after ≡ drop 1 ts) where
  pub member_found : starts (of k.Dot) ts ≡ true → (a : Name) (left : List Symbol) → read_terminal name after ≡ found a left → (n : ℕ) → read_path_step n ts ≡ found (step.Member a, n) left
  unfolding read_path_step
  member_found dot a left h n = rw (dot, ← passed, h) refl

  pub member_failed : starts (of k.Dot) ts ≡ true → (j : Option Fault) (left : List Symbol) → read_terminal name after ≡ failed j left → (n : ℕ) → read_path_step n ts ≡ failed j left
  unfolding read_path_step
  member_failed dot j left h n = rw (dot, ← passed, h) refl

  module _ (no_dot : starts (of k.Dot) ts ≡ false) (bracket : starts (of k.LeftBracket) ts ≡ true) where
    pub element_failed : (j : Option Fault) (left : List Symbol) → read_terminal digits after ≡ failed j left → (n : ℕ) → read_path_step n ts ≡ failed j left
    unfolding read_path_step
    element_failed j left h n = rw (no_dot, bracket, ← passed, h) refl

    pub element_open : (v : ℕ) (left : List Symbol) → read_terminal digits after ≡ found v left → starts (of k.RightBracket) left ≡ false → (n : ℕ) → read_path_step n ts ≡ failed None left
    unfolding read_path_step
    element_open v left h unshut n = rw (no_dot, bracket, ← passed, h, unshut) refl

    pub element_found : (v : ℕ) (left : List Symbol) → read_terminal digits after ≡ found v left → starts (of k.RightBracket) left ≡ true → (n : ℕ) → read_path_step n ts ≡ found (step.Element v, n) (drop 1 left)
    unfolding read_path_step
    element_found v left h shut n = rw (no_dot, bracket, ← passed, h, shut) refl

pub no_step : (ts : List Symbol) → starts (of k.Dot) ts ≡ false → starts (of k.LeftBracket) ts ≡ false → (n : ℕ) → read_path_step n ts ≡ failed None ts
unfolding read_path_step
no_step ts no_dot no_bracket n = rw (no_dot, no_bracket) refl

-- ---- paths

-- the path, where these steps of it have been read
pub path_left : List PathStep → ℕ → List Symbol → Outcome Symbol Fault (Expr × ℕ)
path_left so_far n ts = read_links e.Path (begins is_step) read_path_step so_far n ts

pub path_begin : (n : ℕ) (ts : List Symbol) (a : Name) (m : ℕ) (left : List Symbol) → read_path_name n ts ≡ found (a, m) left → read_path n ts ≡ path_left (step.Member a ∷ []) m left
unfolding path_left read_path read_links
path_begin n ts a m left h = chain_begin (λ first rest. e.Path (step.Member first ∷ rest)) (begins is_step) read_path_name read_path_step n ts a m left h

pub path_none : (n : ℕ) (ts : List Symbol) (j : Option Fault) (left : List Symbol) → read_path_name n ts ≡ failed j left → read_path n ts ≡ failed j left
unfolding read_path
path_none n ts j left h = chain_fail (λ first rest. e.Path (step.Member first ∷ rest)) (begins is_step) read_path_name read_path_step n ts j left h

-- a step leaves less
less_step : CountedShrinks read_path_step
less_step = counted_shrinks path_step (on (one is_step)) read_path_step reads-path_step refl

pub step_shorter : (ts : List Symbol) (a : PathStep) (left : List Symbol) → read_path_step 0 ts ≡ found (a, 0) left → length left < length ts
step_shorter ts a left h = less_step 0 ts (a, 0) left h

module _ (so_far : List PathStep) (n : ℕ) (ts : List Symbol) where
  pub path_step_on : (a : PathStep) (left : List Symbol) → is_step (first_class ts) ≡ true → read_path_step n ts ≡ found (a, n) left → path_left so_far n ts ≡ path_left (so_far ++ a ∷ []) n left
  unfolding path_left
  path_step_on a left h f = links_step e.Path (begins is_step) read_path_step less_step so_far n ts a n left (sym (first_begins is_step refl ts) ∙ h) f

  pub path_stop : is_step (first_class ts) ≡ false → path_left so_far n ts ≡ found (e.Path so_far, n) ts
  unfolding path_left
  path_stop h = links_stop e.Path (begins is_step) read_path_step less_step so_far n ts (sym (first_begins is_step refl ts) ∙ h)

  pub path_fail : (j : Option Fault) (left : List Symbol) → is_step (first_class ts) ≡ true → read_path_step n ts ≡ failed j left → path_left so_far n ts ≡ failed j left
  unfolding path_left
  path_fail j left h f = links_fail e.Path (begins is_step) read_path_step less_step so_far n ts j left (sym (first_begins is_step refl ts) ∙ h) f

-- ---- its name

module _ (n : ℕ) (ts : List Symbol) where
  pub name_refused : is_path_name (first_class ts) ≡ false → read_path_name n ts ≡ failed None ts
  unfolding read_path_name
  name_refused h = counted_refused is_path_name (λ s. name_of s.token) n ts (sym (first_begins is_path_name refl ts) ∙ h)

  pub name_over : is_path_name (first_class ts) ≡ true → n ≡ 0 → read_path_name n ts ≡ failed (Some too_many) ts
  unfolding read_path_name
  name_over h z = counted_over is_path_name (λ s. name_of s.token) n ts (sym (first_begins is_path_name refl ts) ∙ h) z

  pub name_taken : is_path_name (first_class ts) ≡ true → (n ≡ 0 → ⊥) → (left : List Symbol) → left ≡ drop 1 ts → read_path_name n ts ≡ found (name_at ts, n - 1) left
  unfolding read_path_name
  name_taken h z left l = rw l (counted_taken is_path_name (λ s. name_of s.token) n ts (name_at ts) (sym (first_begins is_path_name refl ts) ∙ h) z (λ s r q. rw q refl))
