-- The law of printing: the text of a query that some text spells, spells that query.
use Rattle.std.proofs.Common.{◌≡◌, ℕ, ◌+◌, ◌-◌, ◌≤◌, ◌&&◌, nat_le, true, false, List, [], ◌∷◌, ◌++◌, length, Option, Some, None, Ok, refl, sym, ap, ◌∙◌, subst, arith, codes, decimal}
use Rattle.std.proofs.lemmas.Bool.{leb-true}
use Rattle.std.proofs.lemmas.List.{append-nil}
use Rattle.sql_tokens.specs.declared.class.Class.TheVariants as k
use Rattle.sql_tokens.specs.Classes.{same_class}
use Rattle.sql_tokens.specs.Keywords.{class_of_word}
use Rattle.sql_tokens.specs.Cutting.{Symbol, cut, symbols_of, first_unfit}
use Rattle.grammar_rules.specs.Rules.{Rule, terminal, token, made, optional, preceded_by}
use Rattle.grammar_rules.specs.Counted.{plain, given, both, past}
use Rattle.grammar_rules.specs.Places.{Answer, value, refusal, Answers, named}
use Rattle.grammar_rules.proofs.Printing.{spelled-token}
use Rattle.sql_grammar.specs.declared.tree.Expr.{Expr}
use Rattle.sql_grammar.specs.declared.tree.Name.{Name}
use Rattle.sql_grammar.specs.declared.tree.Step.{Step}
use Rattle.sql_grammar.specs.declared.tree.Query.{Query}
use Rattle.sql_grammar.specs.declared.tree.Selection.{Selection}
use Rattle.sql_grammar.specs.declared.tree.Selection.TheVariants as selection
use Rattle.sql_grammar.specs.Marks.{Fault, of, digits}
use Rattle.sql_grammar.specs.Expressions.{Counting, expression}
use Rattle.sql_grammar.specs.Queries.{rows, totals, Selected, everything, selected, items, selection_list, source, filter, ending, Written, written_of, whole_query, query}
use Rattle.sql_grammar.specs.Faults.{is_own_name, names_source, source_name, selection_of, query_of, misplaced, Spells, OneParse, longest}
use Rattle.sql_printed.specs.Law.{PrintedSpells, PrintedReadsBack}
use Rattle.sql_printed.specs.Shown.{shown}
use Rattle.sql_printed.specs.Printed.{printed, selection_text, item_text, total_text, source_text, filter_text, limit_text}
use Rattle.sql_printed.proofs.Telling.{is_clear, Starts, Cuts, Prints, Word, Told, told-both, told-given, told-into, told-past, told-as, told-plain, cuts-into, cuts-past, cuts-nothing, cuts-sequence, fit-one}
use Rattle.sql_printed.proofs.Words.{and_right, keyword_blank, keyword_blanks, star}
use Rattle.sql_printed.proofs.Numbers.{clear_number}
use Rattle.sql_printed.proofs.Again.{AllGood, good_left, good_right, taken_one, cuts-one, Again, again-both, again-past, again-maybe}
use Rattle.sql_printed.proofs.Listed.{list_text}
use Rattle.sql_printed.proofs.Paths.{digits_taken, digits_print}
use Rattle.sql_printed.proofs.Primaries.{from_word}
use Rattle.sql_printed.proofs.Good.{good_symbols}
use Rattle.sql_printed.proofs.Whole.{expression_again}
use Rattle.sql_printed.proofs.Items.{rows_again, totals_again, list_joined}
use Rattle.sql_printed.proofs.Sources.{source_again}

-- ---- WHERE and LIMIT

where_word : Word (of k.Where) (codes " WHERE ")
unfolding class_of_word same_class
where_word = keyword_blanks k.Where (codes "WHERE") refl

limit_word : Word (of k.Limit) (codes " LIMIT ")
unfolding class_of_word same_class
limit_word = keyword_blanks k.Limit (codes "LIMIT") refl

select_word : Word (of k.Select) (codes "SELECT ")
unfolding class_of_word same_class
select_word = keyword_blank k.Select (codes "SELECT") refl

filter_again : Again filter (λ f. filter) 0 filter_text
filter_again =
    again-maybe (past (of k.Where) (expression 64)) (λ f. past (of k.Where) (expression 64)) 0 filter_text refl
    (again-past (of k.Where) (expression 64) (λ f. expression 64) 0 (codes " WHERE ") (λ x. (shown x).text) where_word (expression_again 64))

abbrev LimitFit : Option ℕ → Type 0
LimitFit None = Unit {0}
LimitFit (Some n) = (nat_le 0 n && nat_le n 9223372036854775807) ≡ true

abbrev limit_rule : Rule Symbol Fault (Option ℕ)
limit_rule = optional (preceded_by (token (of k.Limit)) (terminal digits))

limit_told : (o : Option ℕ) (ts : List Symbol) → limit_rule.Spells o ts → LimitFit o
limit_told o ts (false, w) = subst LimitFit w.0 tt
limit_told o ts (true, w) =
    let t = taken_one digits w.0 w.2.right w.2.after in
    subst LimitFit w.1 (digits_taken 0 9223372036854775807 t.symbol w.0 t.taken)

limit_prints : (o : Option ℕ) → LimitFit o → Prints limit_rule o (limit_text o)
limit_prints None f place rest c = cuts-nothing limit_rule None rest place (false, (refl, refl))
limit_prints (Some n) f place rest c =
    let l = leb-true n 9223372036854775807 (and_right (nat_le 0 n) _ f) in
    let first = limit_word place (decimal n ++ rest) in
    let one = cuts-one digits n (decimal n) rest first.next (digits_print 0 9223372036854775807 n rest first.next (omega arith) f (clear_number rest c)) in
    cuts-into (preceded_by (token (of k.Limit)) (terminal digits)) limit_rule n (Some n) (codes " LIMIT " ++ decimal n) rest place (λ ts w. (true, (n, refl, w)))
    (cuts-past (terminal digits) (of k.Limit) n (codes " LIMIT ") (decimal n) rest place first one)

abbrev last_rule : Option ℕ → Rule Symbol Fault (Option ℕ)
last_rule limit = made (λ s. limit) (optional (token (of k.Semicolon)))

ending_prints : (o : Option ℕ) → LimitFit o → Prints ending o (limit_text o)
ending_prints o f place rest c =
    let one = limit_prints o f place rest c in
    let two = cuts-nothing (last_rule o) o rest one.next (None, refl, (false, (refl, refl))) in
    subst (λ t. Cuts ending o t rest place) (append-nil (limit_text o)) (cuts-sequence limit_rule last_rule o o (limit_text o) [] rest place one two)

ending_again : Again (plain ending) (λ f. plain ending) 0 limit_text
ending_again n p ts g w =
    let j = w.2 in
    let f = limit_told j.value j.left j.whole in
    let is : j.value ≡ w.0 = j.after.1 in
    subst (λ v. Told (λ f. plain ending) 0 n v.1 v.0 (limit_text v.0)) (ap (λ o. (o, n)) is ∙ w.1)
    (told-plain (λ f. ending) 0 n j.value (limit_text j.value) (λ e below. ending_prints j.value f))

-- ---- what follows the selection

starts_limit : (o : Option ℕ) → Starts (limit_text o)
unfolding is_clear
starts_limit None rest c = c
starts_limit (Some n) rest c = refl

starts_filter : (q : Option Expr × Option ℕ) → Starts (filter_text q.0 ++ limit_text q.1)
unfolding is_clear
starts_filter q = by q.0
  where
    by : (o : Option Expr) → Starts (filter_text o ++ limit_text q.1)
    by None rest c = starts_limit q.1 rest c
    by (Some x) rest c = refl

abbrev back_text : (List Step × Option Name) × (Option Expr × Option ℕ) → List ℕ
back_text q = codes " FROM " ++ (source_text q.0.0 q.0.1 ++ (filter_text q.1.0 ++ limit_text q.1.1))

abbrev back : Counting ((List Step × Option Name) × (Option Expr × Option ℕ))
back = past (of k.From) (both source (both filter (plain ending)))

starts_back : (q : (List Step × Option Name) × (Option Expr × Option ℕ)) → Starts (back_text q)
unfolding is_clear
starts_back q rest c = refl

back_again : Again back (λ f. back) 0 back_text
back_again =
    again-past (of k.From) (both source (both filter (plain ending))) (λ f. both source (both filter (plain ending))) 0 (codes " FROM ") (λ q. source_text q.0.0 q.0.1 ++ (filter_text q.1.0 ++ limit_text q.1.1)) from_word
    (again-both source (both filter (plain ending)) (λ f. source) (λ f. both filter (plain ending)) 0 (λ p. source_text p.0 p.1) (λ q. filter_text q.0 ++ limit_text q.1) starts_filter source_again
    (again-both filter (plain ending) (λ f. filter) (λ f. plain ending) 0 filter_text limit_text starts_limit filter_again ending_again))

-- ---- the selection

-- what is printed of a selection; it stands for the same
record SelectionTold (n m : ℕ) (x : Selected) : Type 0 where
  written : Selected
  same : selection_of written ≡ selection_of x
  own : (name : Name) → is_own_name written name ≡ true
  told : Told (λ f. selection_list) 0 n m written (selection_text (selection_of x))

everything_told : (n : ℕ) → Told (λ f. selection_list) 0 n n everything (codes "*")
unfolding selection_list
everything_told n =
    let t = told-plain (λ f. made (λ s. everything) (token (of k.Star))) 0 n everything (codes "*") (λ f below place rest c.
    let w = star place rest in
    record { symbols = w.symbol ∷ []; next = w.next; is = w.is; spelled = (w.symbol, refl, spelled-token (of k.Star) w.symbol w.passes); fit = fit-one w.symbol [] w.fit refl }) in
    told-into (λ f. plain (made (λ s. everything) (token (of k.Star)))) 0 n n everything (codes "*") t (λ f. selection_list) everything (λ f i j ts w. (true, w))

selection_told : (n : ℕ) (p : Selected × ℕ) (ts : List Symbol) → AllGood ts → (selection_list n).Spells p ts → SelectionTold n p.1 p.0
unfolding selection_list
selection_told n p ts g (true, w) =
    subst (λ v. SelectionTold n v.1 v.0) (ap (λ s. (s, n)) w.2.1 ∙ w.1) (record { written = everything; same = refl; own = λ x. refl; told = everything_told n })
selection_told n p ts g (false, (false, w)) =
    subst (λ v. SelectionTold n v.1 v.0) (ap (λ s. (s, n)) w.2.1 ∙ w.1) (record { written = everything; same = refl; own = λ x. refl; told = everything_told n })
selection_told n p ts g (false, (true, (x, is, (true, v)))) =
    let t = rows_again n v.0 ts g v.2 in
    let u = told-into (λ f. rows) 0 n v.0.1 v.0.0 (list_text item_text v.0.0) t (λ f. selection_list) (selected (selection.Rows v.0.0)) (λ f i j us y. (false, (true, ((selection.Rows v.0.0, i), refl, (true, ((v.0.0, i), refl, y)))))) in
    let r = told-as (λ f. selection_list) 0 n v.0.1 (selected (selection.Rows v.0.0)) (list_text item_text v.0.0) u (selection_text (selection.Rows v.0.0)) (list_joined item_text v.0.0) in
    subst (λ y. SelectionTold n y.1 y.0) (ap (λ y. (selected y.0, y.1)) v.1 ∙ is) (record { written = selected (selection.Rows v.0.0); same = refl; own = λ x. refl; told = r })
selection_told n p ts g (false, (true, (x, is, (false, v)))) =
    let t = totals_again n v.0 ts g v.2 in
    let u = told-into (λ f. totals) 0 n v.0.1 v.0.0 (list_text total_text v.0.0) t (λ f. selection_list) (selected (selection.Totals v.0.0)) (λ f i j us y. (false, (true, ((selection.Totals v.0.0, i), refl, (false, ((v.0.0, i), refl, y)))))) in
    let r = told-as (λ f. selection_list) 0 n v.0.1 (selected (selection.Totals v.0.0)) (list_text total_text v.0.0) u (selection_text (selection.Totals v.0.0)) (list_joined total_text v.0.0) in
    subst (λ y. SelectionTold n y.1 y.0) (ap (λ y. (selected y.0, y.1)) v.1 ∙ is) (record { written = selected (selection.Totals v.0.0); same = refl; own = λ x. refl; told = r })

-- ---- the whole text

cut_nothing : (at : ℕ) → cut at [] ≡ []
unfolding cut
cut_nothing at = refl

abbrev written_as : Selected × ((List Step × Option Name) × (Option Expr × Option ℕ)) → Written
written_as p = written_of p.0 p.1.0 p.1.1.0 p.1.1.1

-- a text that spells what is written so
record Told_text (w : Written) (text : List ℕ) : Type 0 where
  fit : first_unfit (symbols_of text) ≡ None
  spelled : query.Spells w (symbols_of text)

whole_text : (w : Written) (m : ℕ) (text : List ℕ) → Told (λ f. whole_query) 0 4096 m w text → Told_text w text
unfolding query is_clear
whole_text w m text t =
    let j = 4096 - t.used in
    let sum : t.used + j ≡ 4096 = let a = t.within in omega (arith, a) in
    let c = t.prints 0 (omega arith) j 0 [] refl in
    let is : symbols_of text ≡ c.symbols = ap (λ l. cut 0 l) (sym (append-nil text)) ∙ (c.is ∙ (ap (λ l. c.symbols ++ l) (cut_nothing c.next) ∙ append-nil c.symbols)) in
    let v = subst (λ n. (whole_query n).Spells (w, j) c.symbols) sum c.spelled in
    record {
      fit = ap first_unfit is ∙ c.fit;
      spelled = subst (λ l. query.Spells w l) (sym is) ((w, j), refl, v);
    }

-- ---- queries

abbrev query_with : Selection → (List Step × Option Name) × (Option Expr × Option ℕ) → Query
query_with items q = record { items = items; alias = q.0.1; source = q.0.0; filter = q.1.0; limit = q.1.1 }

-- what is written so is told again, with `*` for the source's name and `.*`, and stands for the same query
record WrittenTold (w : Written) : Type 0 where
  written : Written
  left : ℕ
  same : query_of written ≡ query_of w
  own : names_source written ≡ true
  told : Told (λ f. whole_query) 0 4096 left written (printed (query_of w))

written_told : (w : Written) (ts : List Symbol) → AllGood ts → query.Spells w ts → WrittenTold w
unfolding query printed
written_told w ts g s =
    let j = s.2 in
    let good = good_right ts j.left j.right j.joined g in
    let v = j.after in
    let i = v.2 in
    let x = selection_told 4096 i.value i.left (good_left j.right i.left i.right i.joined good) i.whole in
    let q = i.after.0 in
    let b = back_again i.value.1 q i.right (good_right j.right i.left i.right i.joined good) i.after.2 in
    let front = selection_text (selection_of i.value.0) in
    let two = told-both (λ f. selection_list) (λ f. back) 0 4096 i.value.1 q.1 x.written q.0 front (back_text q.0) (starts_back q.0) x.told b in
    let made_of = told-given (λ f. both selection_list back) 0 written_as 4096 q.1 (x.written, q.0) (front ++ back_text q.0) two in
    let all = told-past (λ f. given written_as (both selection_list back)) 0 4096 q.1 (written_as (x.written, q.0)) (front ++ back_text q.0) made_of (of k.Select) (codes "SELECT ") select_word in
    let is : written_as (i.value.0, q.0) ≡ w = ap (λ y. written_as y.0) i.after.1 ∙ (ap (λ y. y.0) v.1 ∙ s.1) in
    subst WrittenTold is (record {
      written = written_as (x.written, q.0);
      left = q.1;
      same = ap (λ y. query_with y q.0) x.same;
      own = x.own (source_name q.0.0.1);
      told = all;
    })

value_spelled : (ts : List Symbol) (w : Written) (x : Answer Fault Written) → Answers query ts x → named misplaced ts x ≡ value w → query.Spells w ts
value_spelled ts w (value v) a e = let i : v ≡ w = cc in subst (λ y. query.Spells y ts) i a
value_spelled ts w (refusal None place) a e = absurd (let no : ⊥ = cc in no)
value_spelled ts w (refusal (Some fault) place) a e = absurd (let no : ⊥ = cc in no)

written_spells : (w : Written) (ts : List Symbol) → AllGood ts → query.Spells w ts → length (printed (query_of w)) ≤ longest → Spells (printed (query_of w)) (query_of w)
written_spells w ts g s short =
    let t = written_told w ts g s in
    let x = whole_text t.written t.left (printed (query_of w)) t.told in
    record {
      as_written = t.written;
      written = record { cut = record { short = short; tokens = x.fit }; spelled = (value t.written, x.spelled, refl) };
      own = t.own;
      is = t.same;
    }

pub printed_spells : PrintedSpells
printed_spells q text s short =
    let x = s.written.spelled in
    let w = s.as_written in
    let v = value_spelled (symbols_of text) w x.0 x.1 x.2 in
    subst (λ y. length (printed y) ≤ longest → Spells (printed y) y) s.is (written_spells w (symbols_of text) (good_symbols text) v) short

-- by the law that each text is one query or has one fault
pub printed_reads_back : OneParse → PrintedReadsBack
printed_reads_back one q text s short r p = one (printed q) r (Ok q) p (printed_spells q text s short)
