-- The items of a query, and its aggregates, are told again.
use Rattle.std.proofs.Common.{◌≡◌, ℕ, zero, suc, ◌+◌, Bool, true, false, List, [], ◌∷◌, ◌++◌, map, Option, Some, None, refl, sym, ap, ◌∙◌, subst, append_assoc, codes}
use Rattle.sql_tokens.specs.declared.class.Class.{Class}
use Rattle.sql_tokens.specs.declared.class.Class.TheVariants as k
use Rattle.sql_tokens.specs.Classes.{same_class}
use Rattle.sql_tokens.specs.Keywords.{class_of_word}
use Rattle.sql_tokens.specs.Cutting.{Symbol}
use Rattle.grammar_rules.specs.Rules.{Rule, terminal, token, made}
use Rattle.grammar_rules.specs.Counted.{Counted, plain, given, both, past, bounded_from, item, chain, list_of}
use Rattle.grammar_rules.specs.Spelled.{print_all}
use Rattle.grammar_rules.proofs.Printing.{spelled-token, spelled-room}
use Rattle.sql_grammar.specs.declared.tree.Expr.{Expr}
use Rattle.sql_grammar.specs.declared.tree.Name.{Name}
use Rattle.sql_grammar.specs.declared.tree.Agg.{Agg}
use Rattle.sql_grammar.specs.declared.tree.Agg.TheVariants as agg
use Rattle.sql_grammar.specs.declared.tree.Total.{Total}
use Rattle.sql_grammar.specs.Marks.{Fault, class, of, is_name, name}
use Rattle.sql_grammar.specs.Expressions.{Counting, over_class, enclosed, expression}
use Rattle.sql_grammar.specs.Queries.{as_name, row, rows, count_form, sum_form, min_form, max_form, avg_form, agg_form, aggregate, count_all, any_agg, mixed_class, over_first, over_total, total, later_agg, first_total, later_total, totals}
use Rattle.sql_printed.specs.Shown.{shown, name_text, enclosed_text, joined, joined_from}
use Rattle.sql_printed.specs.Printed.{as_text, item_text, agg_text, total_text}
use Rattle.sql_printed.proofs.Telling.{is_clear, Starts, Told, told-given, told-into, told-plain, told-as, cuts-past, fit-one}
use Rattle.sql_printed.proofs.Words.{is_word, called_name, star}
use Rattle.sql_printed.proofs.Names.{clear_name}
use Rattle.sql_printed.proofs.Again.{good_left, good_right, OnePrints, Again, again-terminal, again-both, again-given, again-past, again-maybe}
use Rattle.sql_printed.proofs.Enclosed.{told-enclosed}
use Rattle.sql_printed.proofs.Listed.{list_text, none_told, spelled_item, again-list}
use Rattle.sql_printed.proofs.Paths.{NameTold, any_name_told, name_one}
use Rattle.sql_printed.proofs.Casts.{as_word}
use Rattle.sql_printed.proofs.Whole.{expression_again}

-- ---- names

pub one_name : (x : Name) → NameTold is_name x → OnePrints name x (name_text x)
one_name x t place rest c = name_one is_name x rest place (t.prints place rest (clear_name rest c))

abbrev pub names : Counting Name
names = plain (terminal name)

pub name_again : Again names (λ f. names) 0 name_text
name_again = again-terminal name (λ f. name) 0 name_text (λ s a g t f below. one_name a (any_name_told s a g t))

as_again : Again as_name (λ f. as_name) 0 as_text
as_again =
    again-maybe (past (of k.As) names) (λ f. past (of k.As) names) 0 as_text refl
    (again-past (of k.As) names (λ f. names) 0 (codes " AS ") name_text as_word name_again)

starts_as : (o : Option Name) → Starts (as_text o)
unfolding is_clear
starts_as None rest c = c
starts_as (Some x) rest c = refl

-- ---- items

row_again : Again row (λ f. row) 0 item_text
row_again =
    again-given (λ p. record { expr = p.0; name = p.1 }) (both (expression 64) as_name) (λ f. both (expression 64) as_name) 0 item_text
    (again-both (expression 64) as_name (λ f. expression 64) (λ f. as_name) 0 (λ x. (shown x).text) as_text starts_as (expression_again 64) as_again)

pub rows_again : Again rows (λ f. rows) 0 (list_text item_text)
rows_again = again-list (λ f s. over_class true (class s)) row (λ f. row) 0 item_text row_again (λ s. over_class true (class s)) 256

joined_others : {A : Type 0} (separator : List ℕ) (print : A → List ℕ) (xs : List A) → joined_from separator separator (map print xs) ≡ print_all (λ a. separator ++ print a) xs
joined_others separator print [] = refl
joined_others separator print (x ∷ xs) =
    ap (λ l. separator ++ (print x ++ l)) (joined_others separator print xs) ∙ sym (append_assoc separator (print x) (print_all (λ a. separator ++ print a) xs))

pub list_joined : {A : Type 0} (print : A → List ℕ) (xs : List A) → list_text print xs ≡ joined (codes ", ") (map print xs)
list_joined print [] = refl
list_joined print (x ∷ xs) = ap (λ l. print x ++ l) (sym (joined_others (codes ", ") print xs))

-- ---- aggregates

told-called : {A : Type 0} (c : Class) (w : List ℕ) (I : ℕ → Counting A) (d n m : ℕ) (a : A) (text : List ℕ) → is_word w ≡ true → same_class c (class_of_word true w) ≡ true
    → Told I d n m a (enclosed_text text) → Told (λ f. past (of c) (I f)) d n m a (w ++ enclosed_text text)
told-called c w I d n m a text i s t = record {
  used = t.used;
  within = t.within;
  prints = λ f below j place rest clear.
      let first = called_name c w ((text ++ codes ")") ++ rest) place i s in
      cuts-past (I f (t.used + j)) (of c) (a, j) w (enclosed_text text) rest place first (t.prints f below j first.next rest clear);
}

again-agg : (c : Class) (w : List ℕ) (node : Expr → Agg) → is_word w ≡ true → same_class c (class_of_word true w) ≡ true → ((x : Expr) → w ++ enclosed_text (shown x).text ≡ agg_text (node x)) → Again (aggregate c node) (λ f. aggregate c node) 0 agg_text
again-agg c w node i s is n p ts good j =
    let b = j.after in
    let good_b = good_right ts j.left j.right j.joined good in
    let q = b.after in
    let good_q = good_left b.right q.left q.right q.joined (good_right j.right b.left b.right b.joined good_b) in
    let x = q.whole in
    let a = x.0.0 in
    let m = x.0.1 in
    let t = told-given (λ f. expression 63) 0 node n m a (shown a).text (expression_again 63 n x.0 q.left good_q x.2) in
    let u = told-enclosed (λ f. true) (λ f. given node (expression 63)) 0 n m (node a) (shown a).text (λ f below. refl) t in
    let v = told-called c w (λ f. enclosed true (given node (expression 63))) 0 n m (node a) (shown a).text i s u in
    subst (λ y. Told (λ f. aggregate c node) 0 n y.1 y.0 (agg_text y.0)) (x.1 ∙ q.after.1)
    (told-as (λ f. aggregate c node) 0 n m (node a) (w ++ enclosed_text (shown a).text) v (agg_text (node a)) (is a))

abbrev star_rule : Rule Symbol Fault Agg
star_rule = made (λ s. agg.CountAll) (token (of k.Star))

again-count_all : Again count_all (λ f. count_all) 0 agg_text
unfolding class_of_word same_class
again-count_all n p ts good j =
    let b = j.after in
    let q = b.after in
    let x = q.whole in
    let y = x.2 in
    let t = told-plain (λ f. star_rule) 0 n agg.CountAll (codes "*") (λ f below place rest c.
    let w = star place rest in
    record { symbols = w.symbol ∷ []; next = w.next; is = w.is; spelled = (w.symbol, refl, spelled-token (of k.Star) w.symbol w.passes); fit = fit-one w.symbol [] w.fit refl }) in
    let u = told-enclosed (λ f. true) (λ f. plain star_rule) 0 n n agg.CountAll (codes "*") (λ f below. refl) t in
    let v = told-called k.CountCalled (codes "COUNT") (λ f. enclosed true (plain star_rule)) 0 n n agg.CountAll (codes "*") refl refl u in
    subst (λ y. Told (λ f. count_all) 0 n y.1 y.0 (agg_text y.0)) (ap (λ s. (s, n)) y.1 ∙ (x.1 ∙ q.after.1)) v

agg_again : Again any_agg (λ f. any_agg) 0 agg_text
unfolding any_agg class_of_word same_class
agg_again n p ts g (count_form, (true, w)) = told-into (λ f. count_all) 0 n p.1 p.0 (agg_text p.0) (again-count_all n p ts g w) (λ f. any_agg) p.0 (λ f i j ts w. (count_form, (true, w)))
agg_again n p ts g (count_form, (false, w)) = told-into (λ f. aggregate k.CountCalled agg.Count) 0 n p.1 p.0 (agg_text p.0) (again-agg k.CountCalled (codes "COUNT") agg.Count refl refl (λ x. refl) n p ts g w) (λ f. any_agg) p.0 (λ f i j ts w. (count_form, (false, w)))
agg_again n p ts g (sum_form, w) = told-into (λ f. aggregate k.SumCalled agg.Sum) 0 n p.1 p.0 (agg_text p.0) (again-agg k.SumCalled (codes "SUM") agg.Sum refl refl (λ x. refl) n p ts g w) (λ f. any_agg) p.0 (λ f i j ts w. (sum_form, w))
agg_again n p ts g (min_form, w) = told-into (λ f. aggregate k.MinCalled agg.Min) 0 n p.1 p.0 (agg_text p.0) (again-agg k.MinCalled (codes "MIN") agg.Min refl refl (λ x. refl) n p ts g w) (λ f. any_agg) p.0 (λ f i j ts w. (min_form, w))
agg_again n p ts g (max_form, w) = told-into (λ f. aggregate k.MaxCalled agg.Max) 0 n p.1 p.0 (agg_text p.0) (again-agg k.MaxCalled (codes "MAX") agg.Max refl refl (λ x. refl) n p ts g w) (λ f. any_agg) p.0 (λ f i j ts w. (max_form, w))
agg_again n p ts g (avg_form, w) = told-into (λ f. aggregate k.AvgCalled agg.Avg) 0 n p.1 p.0 (agg_text p.0) (again-agg k.AvgCalled (codes "AVG") agg.Avg refl refl (λ x. refl) n p ts g w) (λ f. any_agg) p.0 (λ f i j ts w. (avg_form, w))

total_again : Again (total any_agg) (λ f. total any_agg) 0 total_text
total_again =
    again-given (λ p. record { agg = p.0; name = p.1 }) (both any_agg as_name) (λ f. both any_agg as_name) 0 total_text
    (again-both any_agg as_name (λ f. any_agg) (λ f. as_name) 0 agg_text as_text starts_as agg_again as_again)

-- ---- the first aggregate's rule and the others' spell the same

abbrev Into : {S A : Type 0} → Counted S Symbol Fault A → Counted S Symbol Fault A → Type 0
Into {S = S} {A = A} G H = (n : S) (p : A × S) (ts : List Symbol) → (G n).Spells p ts → (H n).Spells p ts

into_item : {A : Type 0} (over other : Symbol → Option Fault) (G H : Counting A) → Into G H → Into (item over G) (item other H)
into_item over other G H f c p ts w =
    let i = spelled_item over G c.0 c.1 p ts w in
    spelled-room other H c.0 p.1.0 c.1 p.1.1 p.0 ts i.room (f c.1 (p.0, p.1.1) ts i.spelled)

into_past : {S A : Type 0} (test : Symbol → Bool) (G H : Counted S Symbol Fault A) → Into G H → Into (past test G) (past test H)
into_past test G H f n p ts j = record { value = j.value; left = j.left; right = j.right; joined = j.joined; whole = j.whole; after = f n p j.right j.after }

into_bounded : {S A : Type 0} (G H : Counted S Symbol Fault A) → Into G H → (b : ℕ) → Into (bounded_from b G) (bounded_from b H)
into_bounded G H f zero n p ts w = w
into_bounded G H f (suc b) n p ts (false, w) = (false, w)
into_bounded G H f (suc b) n p ts (true, j) =
    (true, record { value = j.value; left = j.left; right = j.right; joined = j.joined; whole = f n j.value j.left j.whole; after = (j.after.0, j.after.1, into_bounded G H f b j.value.1 j.after.0 j.right j.after.2) })

into_chain : {S A : Type 0} (G H K L : Counted S Symbol Fault A) → Into G H → Into K L → Into (chain (λ a rest. a ∷ rest) G K) (chain (λ a rest. a ∷ rest) H L)
into_chain G H K L f g n p ts w =
    let j = w.2 in
    (w.0, w.1, record { value = j.value; left = j.left; right = j.right; joined = j.joined; whole = f n j.value j.left j.whole; after = (j.after.0, j.after.1, (j.after.2.0, into_bounded K L g j.after.2.0 j.value.1 j.after.0 j.right j.after.2.1)) })

from_later : Into later_agg any_agg
from_later n p ts (true, w) = w
from_later n p ts (false, w) = absurd (none_told (λ s. mixed_class (class s)) w.0 ts w.2)

to_later : Into any_agg later_agg
to_later n p ts w = (true, w)

into_total : (G H : Counting Agg) → Into G H → Into (total G) (total H)
into_total G H f n p ts w =
    let j = w.2 in
    (w.0, w.1, record { value = j.value; left = j.left; right = j.right; joined = j.joined; whole = f n j.value j.left j.whole; after = j.after })

abbrev over_symbol : Symbol → Option Fault
over_symbol s = over_total (class s)

abbrev total_list : Counting (List Total)
total_list = list_of 256 over_symbol (of k.Comma) (total any_agg)

from_totals : Into totals total_list
from_totals n p ts w = (
  w.0,
  w.1,
  into_chain first_total (item over_symbol (total any_agg)) (past (of k.Comma) later_total) (past (of k.Comma) (item over_symbol (total any_agg)))
      (into_item (λ s. over_first (agg_form (class s))) over_symbol (total any_agg) (total any_agg) (λ n p ts w. w))
      (into_past (of k.Comma) later_total (item over_symbol (total any_agg)) (into_item over_symbol over_symbol (total later_agg) (total any_agg) (into_total later_agg any_agg from_later))) (256, n) w.0 ts w.2,
)

to_totals : Into total_list totals
to_totals n p ts w = (
  w.0,
  w.1,
  into_chain (item over_symbol (total any_agg)) first_total (past (of k.Comma) (item over_symbol (total any_agg))) (past (of k.Comma) later_total)
      (into_item over_symbol (λ s. over_first (agg_form (class s))) (total any_agg) (total any_agg) (λ n p ts w. w))
      (into_past (of k.Comma) (item over_symbol (total any_agg)) later_total (into_item over_symbol over_symbol (total any_agg) (total later_agg) (into_total any_agg later_agg to_later))) (256, n) w.0 ts w.2,
)

pub totals_again : Again totals (λ f. totals) 0 (list_text total_text)
totals_again n p ts g w =
    let t = again-list (λ f. over_symbol) (total any_agg) (λ f. total any_agg) 0 total_text total_again over_symbol 256 n p ts g (from_totals n p ts w) in
    told-into (λ f. total_list) 0 n p.1 p.0 (list_text total_text p.0) t (λ f. totals) p.0 (λ f i j us v. to_totals j (p.0, i) us v)
