-- Items, aggregates and steps, as the parser reads them.
use Rattle.std.proofs.Common.{◌≡◌, ℕ, ◌-◌, ◌<◌, nat_lt, ◌||◌, not, is_some, Bool, true, false, List, [], ◌∷◌, ◌++◌, length, drop, Some, None, Option, refl, sym, ap, ◌∙◌, append_assoc, append-nil}
use Rattle.sql_tokens.specs.declared.class.Class.{Class}
use Rattle.sql_tokens.specs.declared.class.Class.TheVariants as k
use Rattle.std.specs.List.{list_all}
use Rattle.sql_tokens.specs.Classes.{same_class, all_classes}
use Rattle.sql_tokens.proofs.ClassLaws.{every}
use Rattle.sql_tokens.specs.Cutting.{Symbol, first_class}
use Rattle.sql_grammar.specs.declared.tree.Expr.{Expr}
use Rattle.sql_grammar.specs.declared.tree.Name.{Name}
use Rattle.sql_grammar.specs.declared.tree.Agg.{Agg}
use Rattle.sql_grammar.specs.declared.tree.Agg.TheVariants as agg
use Rattle.sql_grammar.specs.declared.tree.Item.{Item}
use Rattle.sql_grammar.specs.declared.tree.Total.{Total}
use Rattle.sql_grammar.specs.declared.tree.Step.{Step}
use Rattle.grammar_rules.specs.Rules.{told}
use Rattle.grammar_rules.specs.Readers.{Outcome, found, failed, starts, chosen, read_made, read_symbol, read_terminal, read_past}
use Rattle.grammar_rules.specs.Counted.{past, item, joined_to}
use Rattle.grammar_rules.specs.CountedReaders.{read_given, read_counted_past, read_item, read_many_from, read_links}
use Rattle.grammar_rules.proofs.Reading.{past_sight}
use Rattle.grammar_rules.proofs.Counts.{reads-counted_past, reads-item}
use Rattle.grammar_rules.proofs.CountedMany.{CountedShrinks, counted_shrinks, read_many_from-unrolled}
use Rattle.sql_grammar.specs.Forms.{read_form}
use Rattle.sql_grammar.specs.Marks.{Fault, too_many, of, class, begins_expression}
use Rattle.sql_grammar.specs.Expressions.{over_class}
use Rattle.sql_grammar.specs.Queries.{AggForm, count_form, sum_form, min_form, max_form, avg_form, agg_form, mixed_class, over_total, over_step, row, source_step, later_total}
use Rattle.sql_grammar.specs.Readers.{Reader, begins, is_step, read_enclosed, read_expression}
use Rattle.sql_grammar.specs.QueryReaders.{read_as_name, read_row, read_aggregate, read_counted, read_count, read_agg_of, read_any_agg, read_later_agg, read_total, read_first_total, read_later_total, is_agg, read_step, read_steps}
use Rattle.sql_grammar.proofs.Combining.{on, is, one, seen}
use Rattle.sql_grammar.proofs.Sights.{or_more}
use Rattle.sql_grammar.proofs.ExpressionReads.{seen_over}
use Rattle.sql_grammar.proofs.ItemReads.{later_first, reads-row, reads-later_total}
use Rattle.sql_grammar.proofs.SourceReads.{seen_over_step, reads-step}
use Rattle.sql_expressions.specs.Parsing.{read_in_brackets}
use Rattle.select_sql.specs.Parsing.{agg_node, read_aggregate_told, read_count_told}
use Rattle.sql_expressions.proofs.PrimarySteps.{not_true, not_false, enclosed_is}
use Rattle.sql_expressions.proofs.ListSteps.{list_left}
use Rattle.sql_expressions.proofs.ItemSteps.{over_first, item_over, item_failed, item_found}
use Rattle.sql_leaves.proofs.CountedSteps.{first_begins, some_left}

pub row_less : CountedShrinks (read_counted_past (of k.Comma) (read_item (λ s. over_class true (class s)) read_row))
row_less =
    counted_shrinks (past (of k.Comma) (item (λ s. over_class true (class s)) row)) (past_sight (of k.Comma) (on (seen begins_expression (λ c. is k.As c || or_more c)))) (read_counted_past (of k.Comma) (read_item (λ s. over_class true (class s)) read_row))
    (reads-counted_past (of k.Comma) (item (λ s. over_class true (class s)) row) (on (seen begins_expression (λ c. is k.As c || or_more c))) (read_item (λ s. over_class true (class s)) read_row)
    (reads-item (λ s. over_class true (class s)) row (on (seen begins_expression (λ c. is k.As c || or_more c))) read_row reads-row refl (λ s. seen_over true (class s)))) refl

pub total_less : CountedShrinks (read_counted_past (of k.Comma) read_later_total)
unfolding same_class
total_less = counted_shrinks (past (of k.Comma) later_total) (on (past_sight (is k.Comma) (seen later_first (is k.As)))) (read_counted_past (of k.Comma) read_later_total) reads-later_total refl

-- ---- aggregates

module _ (n : ℕ) (ts : List Symbol) where
  count_is : read_count n ts ≡ read_count_told n ts
  unfolding read_count read_count_told
  count_is = by_test (starts (of k.CountCalled) ts)
    where
      by_test : (b : Bool) → chosen b (read_enclosed true read_counted n (drop 1 ts)) (failed None ts) ≡ chosen b (read_in_brackets true read_counted n (drop 1 ts)) (failed None ts)
      by_test true = enclosed_is true read_counted n (drop 1 ts)
      by_test false = refl

  aggregate_is : (c : Class) → read_aggregate c (agg_node c) n ts ≡ read_aggregate_told c n ts
  unfolding read_aggregate read_aggregate_told
  aggregate_is c = by_test (starts (of c) ts)
    where
      by_test : (b : Bool) → chosen b (read_enclosed true (read_given (agg_node c) (read_expression 63)) n (drop 1 ts)) (failed None ts) ≡ chosen b (read_in_brackets true (read_given (agg_node c) (read_expression 63)) n (drop 1 ts)) (failed None ts)
      by_test true = enclosed_is true (read_given (agg_node c) (read_expression 63)) n (drop 1 ts)
      by_test false = refl

-- the form is this one
abbrev is_form : Option AggForm → AggForm → Bool
is_form None form = false
is_form (Some count_form) count_form = true
is_form (Some count_form) sum_form = false
is_form (Some count_form) min_form = false
is_form (Some count_form) max_form = false
is_form (Some count_form) avg_form = false
is_form (Some sum_form) count_form = false
is_form (Some sum_form) sum_form = true
is_form (Some sum_form) min_form = false
is_form (Some sum_form) max_form = false
is_form (Some sum_form) avg_form = false
is_form (Some min_form) count_form = false
is_form (Some min_form) sum_form = false
is_form (Some min_form) min_form = true
is_form (Some min_form) max_form = false
is_form (Some min_form) avg_form = false
is_form (Some max_form) count_form = false
is_form (Some max_form) sum_form = false
is_form (Some max_form) min_form = false
is_form (Some max_form) max_form = true
is_form (Some max_form) avg_form = false
is_form (Some avg_form) count_form = false
is_form (Some avg_form) sum_form = false
is_form (Some avg_form) min_form = false
is_form (Some avg_form) max_form = false
is_form (Some avg_form) avg_form = true

form_is : (o : Option AggForm) (form : AggForm) → is_form o form ≡ true → o ≡ Some form
form_is None form h = absurd (not_true h)
form_is (Some count_form) count_form h = refl
form_is (Some count_form) sum_form h = absurd (not_true h)
form_is (Some count_form) min_form h = absurd (not_true h)
form_is (Some count_form) max_form h = absurd (not_true h)
form_is (Some count_form) avg_form h = absurd (not_true h)
form_is (Some sum_form) count_form h = absurd (not_true h)
form_is (Some sum_form) sum_form h = refl
form_is (Some sum_form) min_form h = absurd (not_true h)
form_is (Some sum_form) max_form h = absurd (not_true h)
form_is (Some sum_form) avg_form h = absurd (not_true h)
form_is (Some min_form) count_form h = absurd (not_true h)
form_is (Some min_form) sum_form h = absurd (not_true h)
form_is (Some min_form) min_form h = refl
form_is (Some min_form) max_form h = absurd (not_true h)
form_is (Some min_form) avg_form h = absurd (not_true h)
form_is (Some max_form) count_form h = absurd (not_true h)
form_is (Some max_form) sum_form h = absurd (not_true h)
form_is (Some max_form) min_form h = absurd (not_true h)
form_is (Some max_form) max_form h = refl
form_is (Some max_form) avg_form h = absurd (not_true h)
form_is (Some avg_form) count_form h = absurd (not_true h)
form_is (Some avg_form) sum_form h = absurd (not_true h)
form_is (Some avg_form) min_form h = absurd (not_true h)
form_is (Some avg_form) max_form h = absurd (not_true h)
form_is (Some avg_form) avg_form h = refl

same_form : (form : AggForm) → is_form (Some form) form ≡ true
same_form count_form = refl
same_form sum_form = refl
same_form min_form = refl
same_form max_form = refl
same_form avg_form = refl

-- what a test of all classes says of one
implied : (a b : Bool) → (not a || b) ≡ true → a ≡ true → b ≡ true
implied true b h q = h
implied false b h q = absurd (not_true q)

-- a class of this form is that class
not_here : (c : Class) (form : AggForm) → list_all (λ d. not (is_form (agg_form d) form) || same_class c d) all_classes ≡ true
    → (d : Class) → agg_form d ≡ Some form → same_class c d ≡ false → ⊥
not_here c form all d h other =
    let p : same_class c d ≡ true = implied (is_form (agg_form d) form) (same_class c d) (every (λ x. not (is_form (agg_form x) form) || same_class c x) all d) (ap (λ o. is_form o form) h ∙ same_form form) in
    let q : true ≡ false = sym p ∙ other in cc

-- the token in front begins the aggregate of this class
any_of : (c : Class) (form : AggForm) → list_all (λ d. not (same_class c d) || is_form (agg_form d) form) all_classes ≡ true
    → (s : Symbol) → same_class c (class s) ≡ true → agg_form (class s) ≡ Some form
any_of c form all s h = form_is (agg_form (class s)) form (implied (same_class c (class s)) (is_form (agg_form (class s)) form) (every (λ d. not (same_class c d) || is_form (agg_form d) form) all (class s)) h)

any_by : (n : ℕ) (s : Symbol) (ts : List Symbol) (form : AggForm) → agg_form (class s) ≡ Some form → read_any_agg n (s ∷ ts) ≡ read_agg_of form n (s ∷ ts)
unfolding read_any_agg
any_by n s ts form h = rw h refl

any_none : (n : ℕ) (s : Symbol) (ts : List Symbol) → agg_form (class s) ≡ None → read_any_agg n (s ∷ ts) ≡ failed None (s ∷ ts)
unfolding read_any_agg
any_none n s ts h = rw h refl

pub any_count : (n : ℕ) (ts : List Symbol) → starts (of k.CountCalled) ts ≡ true → read_any_agg n ts ≡ read_count_told n ts
unfolding same_class
any_count n [] q = absurd (not_true q)
any_count n (s ∷ ts) q = any_by n s ts count_form (any_of k.CountCalled count_form counts s q) ∙ count_is n (s ∷ ts)
  where
    counts : list_all (λ d. not (same_class k.CountCalled d) || is_form (agg_form d) count_form) all_classes ≡ true
    counts = refl

pub any_sum : (n : ℕ) (ts : List Symbol) → starts (of k.SumCalled) ts ≡ true → read_any_agg n ts ≡ read_aggregate_told k.SumCalled n ts
unfolding same_class
any_sum n [] q = absurd (not_true q)
any_sum n (s ∷ ts) q = any_by n s ts sum_form (any_of k.SumCalled sum_form sums s q) ∙ aggregate_is n (s ∷ ts) k.SumCalled
  where
    sums : list_all (λ d. not (same_class k.SumCalled d) || is_form (agg_form d) sum_form) all_classes ≡ true
    sums = refl

pub any_min : (n : ℕ) (ts : List Symbol) → starts (of k.MinCalled) ts ≡ true → read_any_agg n ts ≡ read_aggregate_told k.MinCalled n ts
unfolding same_class
any_min n [] q = absurd (not_true q)
any_min n (s ∷ ts) q = any_by n s ts min_form (any_of k.MinCalled min_form mins s q) ∙ aggregate_is n (s ∷ ts) k.MinCalled
  where
    mins : list_all (λ d. not (same_class k.MinCalled d) || is_form (agg_form d) min_form) all_classes ≡ true
    mins = refl

pub any_max : (n : ℕ) (ts : List Symbol) → starts (of k.MaxCalled) ts ≡ true → read_any_agg n ts ≡ read_aggregate_told k.MaxCalled n ts
unfolding same_class
any_max n [] q = absurd (not_true q)
any_max n (s ∷ ts) q = any_by n s ts max_form (any_of k.MaxCalled max_form maxes s q) ∙ aggregate_is n (s ∷ ts) k.MaxCalled
  where
    maxes : list_all (λ d. not (same_class k.MaxCalled d) || is_form (agg_form d) max_form) all_classes ≡ true
    maxes = refl

-- none of the first four, so the last one or none
any_last : (n : ℕ) (s : Symbol) (ts : List Symbol) (o : Option AggForm) → agg_form (class s) ≡ o
    → same_class k.CountCalled (class s) ≡ false → same_class k.SumCalled (class s) ≡ false → same_class k.MinCalled (class s) ≡ false → same_class k.MaxCalled (class s) ≡ false
    → read_any_agg n (s ∷ ts) ≡ read_aggregate_told k.AvgCalled n (s ∷ ts)
unfolding same_class read_aggregate_told
any_last n s ts None h p q r t = any_none n s ts h ∙ sym (told_none (same_class k.AvgCalled (class s)) refl)
  where
    avgs : list_all (λ d. not (same_class k.AvgCalled d) || is_form (agg_form d) avg_form) all_classes ≡ true
    avgs = refl

    told_none : (b : Bool) → same_class k.AvgCalled (class s) ≡ b → read_aggregate_told k.AvgCalled n (s ∷ ts) ≡ failed None (s ∷ ts)
    told_none true e = absurd (let o : None ≡ Some avg_form = sym h ∙ any_of k.AvgCalled avg_form avgs s e in cc)
    told_none false e = rw e refl
any_last n s ts (Some avg_form) h p q r t = any_by n s ts avg_form h ∙ aggregate_is n (s ∷ ts) k.AvgCalled
any_last n s ts (Some count_form) h p q r t = absurd (not_here k.CountCalled count_form all (class s) h p)
  where
    all : list_all (λ d. not (is_form (agg_form d) count_form) || same_class k.CountCalled d) all_classes ≡ true
    all = refl
any_last n s ts (Some sum_form) h p q r t = absurd (not_here k.SumCalled sum_form all (class s) h q)
  where
    all : list_all (λ d. not (is_form (agg_form d) sum_form) || same_class k.SumCalled d) all_classes ≡ true
    all = refl
any_last n s ts (Some min_form) h p q r t = absurd (not_here k.MinCalled min_form all (class s) h r)
  where
    all : list_all (λ d. not (is_form (agg_form d) min_form) || same_class k.MinCalled d) all_classes ≡ true
    all = refl
any_last n s ts (Some max_form) h p q r t = absurd (not_here k.MaxCalled max_form all (class s) h t)
  where
    all : list_all (λ d. not (is_form (agg_form d) max_form) || same_class k.MaxCalled d) all_classes ≡ true
    all = refl

pub any_avg : (n : ℕ) (ts : List Symbol) → starts (of k.CountCalled) ts ≡ false → starts (of k.SumCalled) ts ≡ false → starts (of k.MinCalled) ts ≡ false → starts (of k.MaxCalled) ts ≡ false
    → read_any_agg n ts ≡ read_aggregate_told k.AvgCalled n ts
unfolding read_any_agg read_aggregate_told
any_avg n [] p q r t = refl
any_avg n (s ∷ ts) p q r t = any_last n s ts (agg_form (class s)) refl p q r t

-- ---- steps of the source

pub step_less : CountedShrinks (read_item (λ s. over_step (class s)) read_step)
step_less = counted_shrinks (item (λ s. over_step (class s)) source_step) (on (one is_step)) (read_item (λ s. over_step (class s)) read_step) (reads-item (λ s. over_step (class s)) source_step (on (one is_step)) read_step reads-step refl (λ s. seen_over_step (class s))) refl

-- ---- names behind AS

module _ (n : ℕ) (ts : List Symbol) where
  module _ (a : Expr) (m : ℕ) (left : List Symbol) (h : read_expression 64 n ts ≡ found (a, m) left) where
    pub row_unnamed : (j : Option Fault) (rest : List Symbol) → read_as_name m left ≡ failed j rest → read_row n ts ≡ failed j rest
    unfolding read_row
    row_unnamed j rest g = rw (h, g) refl

    pub row_named : (o : Option Name) (rest : List Symbol) → read_as_name m left ≡ found (o, m) rest → read_row n ts ≡ found (record { expr = a; name = o }, m) rest
    unfolding read_row
    row_named o rest g = rw (h, g) refl

  module _ (read : Reader Agg) (a : Agg) (m : ℕ) (left : List Symbol) (h : read n ts ≡ found (a, m) left) where
    pub total_unnamed : (j : Option Fault) (rest : List Symbol) → read_as_name m left ≡ failed j rest → read_total read n ts ≡ failed j rest
    total_unnamed j rest g = rw (h, g) refl

    pub total_named : (o : Option Name) (rest : List Symbol) → read_as_name m left ≡ found (o, m) rest → read_total read n ts ≡ found (record { agg = a; name = o }, m) rest
    total_named o rest g = rw (h, g) refl

-- ---- the first aggregate is one of 256

pub first_of_many : (n : ℕ) (ts : List Symbol) (a : Total) (m : ℕ) (left : List Symbol) → read_total read_any_agg n ts ≡ found (a, m) left → read_first_total (256, n) ts ≡ found (a, (255, m)) left
unfolding read_first_total
first_of_many n ts a m left h = rw h refl

pub first_of_none : (n : ℕ) (ts : List Symbol) (j : Option Fault) (left : List Symbol) → read_total read_any_agg n ts ≡ failed j left → read_first_total (256, n) ts ≡ failed j left
unfolding read_first_total
first_of_none n ts j left h = rw h refl

-- ---- a later aggregate behind a comma

module _ (n : ℕ) (ts : List Symbol) (comma : starts (of k.Comma) ts ≡ true) (left : List Symbol) (passed : left ≡ drop 1 ts) where
  pub later_over : (j : Option Fault) → j ≡ over_total (first_class left) → (c : ℕ) → c ≡ 0 → read_counted_past (of k.Comma) read_later_total (c, n) ts ≡ failed j left
  unfolding read_later_total
  later_over j h c z = rw (z, comma, ← passed) (over_first over_total refl left j h)

  pub later_failed : (c : ℕ) → (c ≡ 0 → ⊥) → (j : Option Fault) (rest : List Symbol) → read_total read_later_agg n left ≡ failed j rest → read_counted_past (of k.Comma) read_later_total (c, n) ts ≡ failed j rest
  unfolding read_later_total
  later_failed c z j rest h = rw (comma, ← passed, some_left c z, h) refl

  pub later_found : (c : ℕ) → (c ≡ 0 → ⊥) → (a : Total) (m : ℕ) (rest : List Symbol) → read_total read_later_agg n left ≡ found (a, m) rest → read_counted_past (of k.Comma) read_later_total (c, n) ts ≡ found (a, (c - 1, m)) rest
  unfolding read_later_total
  later_found c z a m rest h = rw (comma, ← passed, some_left c z, h) refl

pub agg_failed : (n : ℕ) (ts : List Symbol) (j : Option Fault) (rest : List Symbol) → is_agg (first_class ts) ≡ false → j ≡ mixed_class (first_class ts) → rest ≡ ts → read_later_agg n ts ≡ failed j rest
unfolding read_later_agg
agg_failed n ts j rest h g l = rw (sym (first_begins is_agg refl ts) ∙ h, l, over_first mixed_class refl ts j g) refl

pub agg_is : (n : ℕ) (ts : List Symbol) → is_agg (first_class ts) ≡ true → read_later_agg n ts ≡ read_any_agg n ts
unfolding read_later_agg
agg_is n ts h = rw (sym (first_begins is_agg refl ts) ∙ h) refl

over_is : (c : Class) → is_step c ≡ true → over_step c ≡ Some too_many
over_is k.Dot h = refl
over_is k.LeftBracket h = refl
over_is _ h = absurd (not_true h)

module _ (all : List Step) (n : ℕ) (ts : List Symbol) where
  pub steps_stop : (most : ℕ) → is_step (first_class ts) ≡ false → read_given (λ rest. all ++ rest) (read_steps most) n ts ≡ found (all, n) ts
  unfolding read_steps
  steps_stop most h = rw (read_many_from-unrolled (begins is_step) (read_item (λ s. over_step (class s)) read_step) step_less (most, n) ts, sym (first_begins is_step refl ts) ∙ h, append-nil) refl

  pub steps_over : (most : ℕ) → is_step (first_class ts) ≡ true → most ≡ 0 → read_given (λ rest. all ++ rest) (read_steps most) n ts ≡ failed (Some too_many) ts
  unfolding read_steps
  steps_over most h z = rw (read_many_from-unrolled (begins is_step) (read_item (λ s. over_step (class s)) read_step) step_less (most, n) ts, sym (first_begins is_step refl ts) ∙ h, item_over over_step refl read_step n ts most z (Some too_many) (sym (over_is (first_class ts) h))) refl

  pub steps_fail : (most : ℕ) → is_step (first_class ts) ≡ true → (most ≡ 0 → ⊥) → (j : Option Fault) (left : List Symbol) → read_step n ts ≡ failed j left → read_given (λ rest. all ++ rest) (read_steps most) n ts ≡ failed j left
  unfolding read_steps
  steps_fail most h z j left g = rw (read_many_from-unrolled (begins is_step) (read_item (λ s. over_step (class s)) read_step) step_less (most, n) ts, sym (first_begins is_step refl ts) ∙ h, item_failed over_step refl read_step n ts most z j left g) refl

  pub steps_on : (most : ℕ) → is_step (first_class ts) ≡ true → (most ≡ 0 → ⊥) → (s : Step) (left : List Symbol) → read_step n ts ≡ found (s, n) left → read_given (λ rest. all ++ rest) (read_steps most) n ts ≡ read_given (λ rest. (all ++ s ∷ []) ++ rest) (read_steps (most - 1)) n left
  unfolding read_steps
  steps_on most h z s left g =
      rw (read_many_from-unrolled (begins is_step) (read_item (λ s. over_step (class s)) read_step) step_less (most, n) ts, sym (first_begins is_step refl ts) ∙ h, item_found over_step refl read_step n ts most z s n left g)
      (joined (read_many_from (begins is_step) (read_item (λ s. over_step (class s)) read_step) (most - 1, n) left))
    where
      joined : (o : Outcome Symbol Fault (List Step × (ℕ × ℕ))) → read_made {B = List Step × ℕ} (λ p. (all ++ p.0, p.1)) (read_made {B = List Step × ℕ} (λ p. (p.0, p.1.1)) (read_made (joined_to s) o)) ≡ read_made {B = List Step × ℕ} (λ p. ((all ++ s ∷ []) ++ p.0, p.1)) (read_made {B = List Step × ℕ} (λ p. (p.0, p.1.1)) o)
      joined (found p rest) = rw append_assoc
      joined (failed j rest) = refl

step_less_alone : CountedShrinks read_step
step_less_alone = counted_shrinks source_step (on (one is_step)) read_step reads-step refl

pub step_shorter : (ts : List Symbol) (a : Step) (left : List Symbol) → read_step 0 ts ≡ found (a, 0) left → length left < length ts
step_shorter ts a left h = step_less_alone 0 ts (a, 0) left h
