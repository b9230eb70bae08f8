-- Each query that a text spells is lawful, and no deeper than its brackets allow.
use Rattle.std.proofs.Common.{◌≡◌, ℕ, zero, suc, ◌+◌, ◌-◌, ◌≤◌, nat_lt, Bool, true, false, List, [], ◌∷◌, length, Option, Some, None, refl, subst, arith}
use Rattle.std.specs.List.{list_all}
use Rattle.std.proofs.lemmas.Bool.{ltb-true}
use Rattle.sql_tokens.specs.declared.class.Class.{Class}
use Rattle.sql_tokens.specs.declared.class.Class.TheVariants as k
use Rattle.sql_tokens.specs.Cutting.{Symbol, symbols_of}
use Rattle.grammar_rules.specs.Rules.{told, terminal, token, made, one_of_two}
use Rattle.grammar_rules.specs.Counted.{plain, given, both, past, bounded_from, item}
use Rattle.grammar_rules.specs.Spelled.{All}
use Rattle.grammar_rules.specs.Places.{Answer, value, refusal, Answers, named}
use Rattle.grammar_rules.proofs.EachValue.{each-terminal}
use Rattle.sql_grammar.specs.declared.tree.Expr.{Expr}
use Rattle.sql_grammar.specs.declared.tree.Name.{Name}
use Rattle.sql_grammar.specs.declared.tree.Agg.{Agg}
use Rattle.sql_grammar.specs.declared.tree.Agg.TheVariants as agg
use Rattle.sql_grammar.specs.declared.tree.Item.{Item}
use Rattle.sql_grammar.specs.declared.tree.Total.{Total}
use Rattle.sql_grammar.specs.declared.tree.Step.{Step}
use Rattle.sql_grammar.specs.declared.tree.Query.{Query}
use Rattle.sql_grammar.specs.declared.tree.Selection.{Selection}
use Rattle.sql_grammar.specs.declared.tree.Selection.TheVariants as selection
use Rattle.sql_grammar.specs.Marks.{Fault, class, of, is_source}
use Rattle.sql_grammar.specs.Expressions.{Counting, over_class, enclosed, expression}
use Rattle.sql_grammar.specs.Queries.{as_name, row, rows, count_form, sum_form, min_form, max_form, avg_form, agg_form, aggregate, count_all, any_agg, mixed_class, over_first, over_total, total, later_agg, first_total, later_total, totals, Selected, selection_list, source_step, over_step, steps, source_steps, alias, source, filter, ending, Written, written_of, whole_query, query}
use Rattle.sql_grammar.specs.Faults.{selection_of, query_of, misplaced, Spells}
use Rattle.sql_lawful.specs.Lawful.{is_lawful_agg, is_lawful_item, is_lawful_total, is_lawful_selection, is_lawful_filter, most_steps}
use Rattle.sql_lawful.specs.Depths.{OfAgg, OfItem, OfTotal, OfSelection, OfFilter, depth_of}
use Rattle.sql_lawful.specs.Laws.{EachSpelledIsLawful, EachSpelledIsShallow}
use Rattle.sql_lawful.proofs.Always.{Always, IfThere, Any, always-any, always-so, no_told, always-told, always-given, always-both, always-past, always-maybe, always-either, always-item, always-listed, always-list_of, always-enclosed}
use Rattle.sql_lawful.proofs.Closed.{Closed}
use Rattle.sql_lawful.proofs.Expressions.{height, fits_expression}
use Rattle.sql_lawful.proofs.LawfulForms.{Fit, and_both, lawful_closed}
use Rattle.sql_lawful.proofs.DepthForms.{low_closed}

-- ---- items

abbrev item_of : Expr × Option Name → Item
item_of p = record { expr = p.0; name = p.1 }

abbrev total_of : Agg × Option Name → Total
total_of p = record { agg = p.0; name = p.1 }

-- where F is closed
module _ (F : ℕ → Expr → Type 0) (z : Closed F) where
  -- an expression that stands alone, and one within an aggregate's brackets
  abbrev Alone : Expr → Type 0
  Alone a = F (height 64) a

  fits_alone : Always Alone (expression 64)
  fits_alone = fits_expression F z 64

  fits_within : Always Alone (expression 63)
  fits_within =
      always-so (expression 63) (F (height 63)) Alone (λ a f. lifted (height 63) a f) (fits_expression F z 63)
    where
      lifted : (h : ℕ) (a : Expr) → F h a → F (suc (suc (suc (suc (suc (suc (suc (suc h)))))))) a
      lifted h a f =
          let f1 = z.more h a f in
          let f2 = z.more (suc h) a f1 in
          let f3 = z.more (suc (suc h)) a f2 in
          let f4 = z.more (suc (suc (suc h))) a f3 in
          let f5 = z.more (suc (suc (suc (suc h)))) a f4 in
          let f6 = z.more (suc (suc (suc (suc (suc h))))) a f5 in
          let f7 = z.more (suc (suc (suc (suc (suc (suc h)))))) a f6 in
          z.more (suc (suc (suc (suc (suc (suc (suc h))))))) a f7

  fits_row : Always (OfItem Alone) row
  fits_row = always-given item_of (both (expression 64) as_name) (λ p. Alone p.0 × Any p.1) (OfItem Alone) (λ p x. x.0) (always-both (expression 64) as_name Alone Any fits_alone (always-any as_name))

  fits_rows : Always (All (OfItem Alone)) rows
  fits_rows = always-list_of 256 (λ s. over_class true (class s)) (of k.Comma) row (OfItem Alone) fits_row

  fits_aggregate : (c : Class) (node : Expr → Agg) → ((a : Expr) → Alone a → OfAgg Alone (node a)) → Always (OfAgg Alone) (aggregate c node)
  fits_aggregate c node f =
      let G = given node (expression 63) in
      always-past (of c) (enclosed true G) (OfAgg Alone) (always-enclosed true G (OfAgg Alone) (always-given node (expression 63) Alone (OfAgg Alone) f fits_within))

  fits_count_all : Always (OfAgg Alone) count_all
  fits_count_all =
      let G = plain {S = ℕ} (made {K = Fault} (λ s. agg.CountAll) (token (of k.Star))) in
      always-past (of k.CountCalled) (enclosed true G) (OfAgg Alone) (always-enclosed true G (OfAgg Alone) (λ n p ts w. subst (λ v. OfAgg Alone v.0) w.1 (subst (OfAgg Alone) w.2.1 tt)))

  fits_agg : Always (OfAgg Alone) any_agg
  unfolding any_agg
  fits_agg n p ts (count_form, (true, w)) = fits_count_all n p ts w
  fits_agg n p ts (count_form, (false, w)) = fits_aggregate k.CountCalled agg.Count (λ a f. f) n p ts w
  fits_agg n p ts (sum_form, w) = fits_aggregate k.SumCalled agg.Sum (λ a f. f) n p ts w
  fits_agg n p ts (min_form, w) = fits_aggregate k.MinCalled agg.Min (λ a f. f) n p ts w
  fits_agg n p ts (max_form, w) = fits_aggregate k.MaxCalled agg.Max (λ a f. f) n p ts w
  fits_agg n p ts (avg_form, w) = fits_aggregate k.AvgCalled agg.Avg (λ a f. f) n p ts w

  fits_later_agg : Always (OfAgg Alone) later_agg
  fits_later_agg = always-either any_agg (plain (terminal (λ s. told (mixed_class (class s))))) (OfAgg Alone) fits_agg (always-told ℕ (λ s. mixed_class (class s)) (OfAgg Alone))

  fits_total : (G : Counting Agg) → Always (OfAgg Alone) G → Always (OfTotal Alone) (total G)
  fits_total G g = always-given total_of (both G as_name) (λ p. OfAgg Alone p.0 × Any p.1) (OfTotal Alone) (λ p x. x.0) (always-both G as_name (OfAgg Alone) Any g (always-any as_name))

  fits_totals : Always (All (OfTotal Alone)) totals
  fits_totals n p ts w =
      let first = always-item (λ s. over_first (agg_form (class s))) (total any_agg) (OfTotal Alone) (fits_total any_agg fits_agg) in
      let later = always-item (λ s. over_total (class s)) (total later_agg) (OfTotal Alone) (fits_total later_agg fits_later_agg) in
      let all = always-listed first_total (past (of k.Comma) later_total) (OfTotal Alone) first (always-past (of k.Comma) later_total (OfTotal Alone) later) in
      subst (λ v. All (OfTotal Alone) v.0) w.1 (all (256, n) w.0 ts w.2)

  -- ---- the selection

  abbrev OfSelected : Selected → Type 0
  OfSelected s = OfSelection Alone (selection_of s)

  fits_selection : Always OfSelected selection_list
  unfolding selection_list
  fits_selection n p ts (true, w) = subst (λ v. OfSelected v.0) w.1 (subst OfSelected w.2.1 tt)
  fits_selection n p ts (false, (false, w)) = subst (λ v. OfSelected v.0) w.1 (subst OfSelected w.2.1 tt)
  fits_selection n p ts (false, (true, (x, is, (true, v)))) =
      let items : OfSelection Alone x.0 = subst (λ y. OfSelection Alone y.0) v.1 (fits_rows n v.0 ts v.2) in
      subst (λ y. OfSelected y.0) is items
  fits_selection n p ts (false, (true, (x, is, (false, v)))) =
      let items : OfSelection Alone x.0 = subst (λ y. OfSelection Alone y.0) v.1 (fits_totals n v.0 ts v.2) in
      subst (λ y. OfSelected y.0) is items

-- ---- the source

abbrev over : Symbol → Option Fault
over s = over_step (class s)

-- a step that was spelled had room
one_step : (c : ℕ × ℕ) (p : Step × (ℕ × ℕ)) (ts : List Symbol) → (item over source_step c).Spells p ts → c.0 ≡ suc p.1.0
one_step c p ts w = by (nat_lt 0 c.0) refl w
  where
    by : (v : Bool) → nat_lt 0 c.0 ≡ v → (one_of_two {A = Step × (ℕ × ℕ)} (made (λ q. (q.0, (c.0 - 1, q.1))) (source_step c.1)) (terminal (λ t. told (over t))) v).Spells p ts → c.0 ≡ suc p.1.0
    by true v x = subst (λ y. c.0 ≡ suc y.1.0) x.1 (let l = ltb-true 0 c.0 v in omega arith)
    by false v x = each-terminal (λ t. told (over t)) (λ y. c.0 ≡ suc y.1.0) (λ t a e. absurd (no_told (over t) a e)) p ts x

bounded_steps : (b : ℕ) (c : ℕ × ℕ) (p : List Step × (ℕ × ℕ)) (ts : List Symbol) → (bounded_from b (item over source_step) c).Spells p ts → length p.0 + p.1.0 ≡ c.0
bounded_steps zero c p ts w = subst (λ v. length v.0 + v.1.0 ≡ c.0) w.0 (omega arith)
bounded_steps (suc b) c p ts (false, w) = subst (λ v. length v.0 + v.1.0 ≡ c.0) w.0 (omega arith)
bounded_steps (suc b) c p ts (true, j) =
    let q = j.after.0 in
    let one = one_step c j.value j.left j.whole in
    let rest = bounded_steps b j.value.1 q j.right j.after.2 in
    subst (λ v. length v.0 + v.1.0 ≡ c.0) j.after.1 (omega (arith, one, rest))

most_of : (most n : ℕ) (p : List Step × ℕ) (ts : List Symbol) → (steps most n).Spells p ts → length p.0 ≤ most
most_of most n p ts w =
    let l = bounded_steps w.2.0 (most, n) w.0 ts w.2.1 in
    subst (λ v. length v.0 ≤ most) w.1 (omega (arith, l))

abbrev FitSteps : List Step → Type 0
FitSteps xs = length xs ≤ most_steps

fits_steps : Always FitSteps source_steps
fits_steps n p ts (true, j) = most_of 64 j.value.1 p j.right j.after
fits_steps n p ts (false, (true, j)) =
    let x = j.after in
    let l = most_of 63 j.value.1 x.0 j.right x.2 in
    subst (λ v. length v.0 ≤ 64) x.1 (omega (arith, l))
fits_steps n p ts (false, (false, w)) = subst (λ v. length v.0 ≤ 64) w.0 (omega arith)

fits_source : Always (λ s. FitSteps s.0 × Any s.1) source
unfolding source
fits_source = always-past (λ s. is_source (class s)) (both source_steps alias) (λ s. FitSteps s.0 × Any s.1) (always-both source_steps alias FitSteps Any fits_steps (always-any alias))

-- ---- queries

abbrev behind_from : Counting ((List Step × Option Name) × (Option Expr × Option ℕ))
behind_from = past (of k.From) (both source (both filter (plain ending)))

value_spelled : (ts : List Symbol) (w : Written) (x : Answer Fault Written) → Answers query ts x → named misplaced ts x ≡ value w → query.Spells w ts
value_spelled ts w (value v) a e = let i : v ≡ w = cc in subst (λ y. query.Spells y ts) i a
value_spelled ts w (refusal None place) a e = absurd (let no : ⊥ = cc in no)
value_spelled ts w (refusal (Some fault) place) a e = absurd (let no : ⊥ = cc in no)

-- the steps of a query, and what holds of its expressions
record Holds (P : Expr → Type 0) (q : Query) : Type 0 where
  items : OfSelection P q.items
  filter : OfFilter P q.filter
  steps : FitSteps q.source

fit_filter : (P : Expr → Type 0) (o : Option Expr) → IfThere P o → OfFilter P o
fit_filter P None f = tt
fit_filter P (Some a) f = f

module _ (F : ℕ → Expr → Type 0) (z : Closed F) where
  abbrev OfAll : Written → Type 0
  OfAll w = Holds (F (height 64)) (query_of w)

  fits_whole : Always OfAll whole_query
  fits_whole =
      let P = F (height 64) in
      let f = λ (p : Selected × ((List Step × Option Name) × (Option Expr × Option ℕ))). written_of p.0 p.1.0 p.1.1.0 p.1.1.1 in
      let E = plain {S = ℕ} ending in
      let B = both selection_list behind_from in
      let T = λ (q : Option Expr × Option ℕ). IfThere P q.0 × Any q.1 in
      let R = λ (q : (List Step × Option Name) × (Option Expr × Option ℕ)). (FitSteps q.0.0 × Any q.0.1) × T q.1 in
      let condition = always-maybe (past (of k.Where) (expression 64)) P (always-past (of k.Where) (expression 64) P (fits_alone F z)) in
      let rest = always-both source (both filter E) (λ s. FitSteps s.0 × Any s.1) T fits_source (always-both filter E (IfThere P) Any condition (always-any E)) in
      always-past (of k.Select) (given f B) OfAll
      (always-given f B (λ p. OfSelected F z p.0 × R p.1) OfAll (λ p x. record { items = x.0; filter = fit_filter P p.1.1.0 x.1.1.0; steps = x.1.0.0 })
      (always-both selection_list behind_from (OfSelected F z) R (fits_selection F z) (always-past (of k.From) (both source (both filter E)) R rest)))

  fits_query : (w : Written) (ts : List Symbol) → query.Spells w ts → OfAll w
  unfolding query
  fits_query w ts s = subst OfAll s.1 (fits_whole 4096 s.0 ts s.2)

  -- what is closed holds of each expression of each query that a text spells
  each_spelled : (text : List ℕ) (q : Query) → Spells text q → Holds (F (height 64)) q
  each_spelled text q s =
      let x = s.written.spelled in
      subst (Holds (F (height 64))) s.is (fits_query s.as_written (symbols_of text) (value_spelled (symbols_of text) s.as_written x.0 x.1 x.2))

-- ---- the laws

all_pass : {A : Type 0} (P : A → Type 0) (f : A → Bool) (xs : List A) → ((a : A) → P a → f a ≡ true) → All P xs → list_all f xs ≡ true
all_pass P f [] h g = refl
all_pass P f (x ∷ xs) h g = and_both (f x) (list_all f xs) (h x g.0) (all_pass P f xs h g.1)

lawful_agg : (a : Agg) → OfAgg Fit a → is_lawful_agg a ≡ true
lawful_agg agg.CountAll f = refl
lawful_agg (agg.Count x) f = f
lawful_agg (agg.Sum x) f = f
lawful_agg (agg.Min x) f = f
lawful_agg (agg.Max x) f = f
lawful_agg (agg.Avg x) f = f

lawful_selection : (s : Selection) → OfSelection Fit s → is_lawful_selection s ≡ true
lawful_selection selection.All f = refl
lawful_selection (selection.Rows items) f = all_pass (OfItem Fit) is_lawful_item items (λ i g. g) f
lawful_selection (selection.Totals totals) f = all_pass (OfTotal Fit) is_lawful_total totals (λ t g. lawful_agg t.agg g) f

lawful_filter : (o : Option Expr) → OfFilter Fit o → is_lawful_filter o ≡ true
lawful_filter None f = refl
lawful_filter (Some a) f = f

pub each_spelled_is_lawful : EachSpelledIsLawful
each_spelled_is_lawful text q s =
    let x = each_spelled (λ h a. Fit a) lawful_closed text q s in
    record { items = lawful_selection q.items x.items; filter = lawful_filter q.filter x.filter; steps = x.steps }

pub each_spelled_is_shallow : EachSpelledIsShallow
each_spelled_is_shallow text q s =
    let x = each_spelled (λ h a. depth_of a ≤ h) low_closed text q s in
    record { items = x.items; filter = x.filter }
