-- `name . *` is tried ahead of the items: a reader of items refuses its star, and up to there all of it is a front of items.
use Rattle.std.proofs.Common.{◌≡◌, ℕ, zero, suc, ◌-◌, ◌||◌, Bool, true, false, not, List, [], ◌∷◌, None, refl, sym, ◌∙◌, subst, if◌then◌else◌}
use Rattle.std.specs.List.{list_all}
use Rattle.sql_tokens.specs.declared.class.Class.{Class}
use Rattle.sql_tokens.specs.declared.class.Class.TheVariants as k
use Rattle.sql_tokens.specs.Classes.{same_class, all_classes}
use Rattle.sql_tokens.specs.Cutting.{Symbol}
use Rattle.sql_tokens.proofs.ClassLaws.{every}
use Rattle.sql_grammar.specs.declared.tree.Expr.{Expr}
use Rattle.sql_grammar.specs.declared.tree.Expr.TheVariants as e
use Rattle.sql_grammar.specs.declared.tree.PathStep.TheVariants as step
use Rattle.grammar_rules.specs.Rules.{Rule, Verdict, takes, faults, refuses, token, nothing, made, either, preceded_by}
use Rattle.grammar_rules.specs.Readers.{Outcome, found, failed, read_made, read_terminal, read_fault, read_past, read_either}
use Rattle.grammar_rules.specs.Counted.{plain, given}
use Rattle.grammar_rules.specs.CountedReaders.{read_plain, read_one_more, read_given, read_counted_past}
use Rattle.grammar_rules.proofs.Clear.{Sight}
use Rattle.grammar_rules.proofs.Terminals.{nothing_sight}
use Rattle.grammar_rules.proofs.Reading.{Reads, past_sight, reads-nothing, reads-made, reads-past}
use Rattle.grammar_rules.proofs.Choices.{either_sight, reads-either}
use Rattle.grammar_rules.proofs.Begun.{reads-begun}
use Rattle.grammar_rules.proofs.Classes.{distinct_by, reads_by}
use Rattle.sql_grammar.proofs.Combining.{on, Readable, is, one, seen, seen_those, seen_word, reads_terminal, plainly, as_given}
use Rattle.sql_grammar.specs.Marks.{Fault, too_deep, too_many, class, of, is_name, is_path_name, begins_expression, name_of, path_form}
use Rattle.sql_grammar.specs.Expressions.{Counting, Room, room_of, word, path_step, path_name, or_node, and_node, sum_node, prod_node, over_class}
use Rattle.sql_grammar.specs.Readers.{Reader, begins, read_flag, is_step, read_path_step, read_path_name, read_path, is_prod_op, is_sum_op, read_primary_of, read_primary, read_unary, read_prod_part, read_prod, read_sum_part, read_sum, read_pred, read_negation, read_conjunction, read_disjunction, read_expression}
use Rattle.sql_grammar.specs.declared.tree.Name.{Name}
use Rattle.grammar_rules.specs.CountedReaders.{read_item}
use Rattle.grammar_rules.specs.Readers.{read_ahead}
use Rattle.sql_grammar.specs.Queries.{Selected, everything, everything_of, selected, items, all_of_name, selection_list}
use Rattle.sql_grammar.specs.QueryReaders.{read_row, read_rows, read_items, read_all_of_name, read_list}
use Rattle.std.proofs.Common.{◌++◌, ◌⊎◌, inl, inr}
use Rattle.sql_tokens.specs.TokenForms.{punctuation}
use Rattle.grammar_rules.specs.Rules.{Last, fits, faulty, FrontOfOne}
use Rattle.grammar_rules.proofs.Alternatives.{cons_not_nil}
use Rattle.grammar_rules.proofs.Right.{Right, RefusedAt}
use Rattle.grammar_rules.proofs.Counts.{one_more_taken}
use Rattle.grammar_rules.proofs.CountedMany.{counted_shrinks, chain_begin, chain_fail, links_fail}
use Rattle.grammar_rules.proofs.Begun.{FrontBehind, no_symbol, one_symbol, front_behind, TextBehind, text_behind, begun_text, begun_front, past_text, past_front}
use Rattle.grammar_rules.proofs.Ahead.{Ahead, ahead_sight, refused_no_front, reads-ahead}
use Rattle.sql_grammar.proofs.PartReads.{reads-path_step}
use Rattle.sql_grammar.proofs.Primaries.{begun_by}
use Rattle.sql_grammar.proofs.ItemReads.{items_sight, reads-items}

-- ---- what a name's class isn't

implied : (a b : Bool) → (not a || b) ≡ true → a ≡ true → b ≡ true
implied true b h q = h
implied false b h q = cc

not_both : (b : Bool) → not b ≡ true → b ≡ false
not_both true h = cc
not_both false h = refl

-- a class of the first kind isn't of the second
apart_class : (first other : Class → Bool) → list_all (λ c. not (first c) || not (other c)) all_classes ≡ true → (c : Class) → first c ≡ true → other c ≡ false
apart_class first other h c q = not_both (other c) (implied (first c) (not (other c)) (every (λ d. not (first d) || not (other d)) h c) q)

no_minus : (c : Class) → is_path_name c ≡ true → same_class k.Minus c ≡ false
unfolding same_class
no_minus = apart_class is_path_name (same_class k.Minus) refl

no_not : (c : Class) → is_path_name c ≡ true → same_class k.Not c ≡ false
unfolding same_class
no_not = apart_class is_path_name (same_class k.Not) refl

begins_it : (c : Class) → is_path_name c ≡ true → begins_expression c ≡ true
begins_it c q = implied (is_path_name c) (begins_expression c) (every (λ d. not (is_path_name d) || begins_expression d) refl c) q

no_name : (c : Class) → same_class k.Star c ≡ true → is_name c ≡ false
unfolding same_class
no_name = apart_class (same_class k.Star) is_name refl

is_dot_step : (c : Class) → same_class k.Dot c ≡ true → is_step c ≡ true
unfolding same_class
is_dot_step c q = implied (same_class k.Dot c) (is_step c) (every (λ d. not (same_class k.Dot d) || is_step d) refl c) q

-- ---- the reader of items refuses the star

module _ (n : ℕ) (some : n ≡ 0 → ⊥) (s d t : Symbol) (r : List Symbol) (named : is_path_name (class s) ≡ true) (dot : of k.Dot d ≡ true) (star : of k.Star t ≡ true) where
  abbrev ts : List Symbol
  ts = s ∷ d ∷ t ∷ r

  taken : read_one_more too_many path_name n ts ≡ found (name_of s.token, n - 1) (d ∷ t ∷ r)
  taken = one_more_taken too_many path_name n s (name_of s.token) ts (d ∷ t ∷ r) refl (rw named refl) some refl

  step_fails : (m : ℕ) → read_path_step m (d ∷ t ∷ r) ≡ failed None (t ∷ r)
  unfolding read_path_step
  step_fails m = rw (dot, no_name (class t) star) refl

  path_fails : read_path n ts ≡ failed None (t ∷ r)
  unfolding read_path read_path_name
  path_fails =
      chain_begin (λ first rest. e.Path (step.Member first ∷ rest)) (begins is_step) (read_one_more too_many path_name) read_path_step n ts (name_of s.token) (n - 1) (d ∷ t ∷ r) taken
      ∙ links_fail (λ rest. e.Path (step.Member (name_of s.token) ∷ rest)) (begins is_step) read_path_step (counted_shrinks path_step (on (one is_step)) read_path_step reads-path_step refl) [] (n - 1) (d ∷ t ∷ r) None (t ∷ r)
      (is_dot_step (class d) dot) (step_fails (n - 1))

  module _ (room : Room) (inner : Reader Expr) where
    primary_fails : read_primary room inner n ts ≡ failed None (t ∷ r)
    unfolding read_primary read_primary_of
    primary_fails = rw (begun_by path_form (class s) named) path_fails

    unary_fails : read_unary room inner n ts ≡ failed None (t ∷ r)
    unfolding read_unary read_flag
    unary_fails = rw (no_minus (class s) named, primary_fails) refl

    prod_fails : read_prod room inner n ts ≡ failed None (t ∷ r)
    unfolding read_prod
    prod_fails = chain_fail prod_node (begins is_prod_op) (read_unary room inner) (read_prod_part room inner) n ts None (t ∷ r) unary_fails

    sum_fails : read_sum room inner n ts ≡ failed None (t ∷ r)
    unfolding read_sum
    sum_fails = chain_fail sum_node (begins is_sum_op) (read_prod room inner) (read_sum_part room inner) n ts None (t ∷ r) prod_fails

    pred_fails : read_pred room inner n ts ≡ failed None (t ∷ r)
    unfolding read_pred
    pred_fails = rw sum_fails refl

    negation_fails : read_negation room inner n ts ≡ failed None (t ∷ r)
    unfolding read_negation read_flag
    negation_fails = rw (no_not (class s) named, pred_fails) refl

    conjunction_fails : read_conjunction room inner n ts ≡ failed None (t ∷ r)
    unfolding read_conjunction
    conjunction_fails = chain_fail and_node (of k.And) (read_negation room inner) (read_counted_past (of k.And) (read_negation room inner)) n ts None (t ∷ r) negation_fails

    disjunction_fails : read_disjunction room inner n ts ≡ failed None (t ∷ r)
    unfolding read_disjunction
    disjunction_fails = chain_fail or_node (of k.Or) (read_conjunction room inner) (read_counted_past (of k.Or) (read_conjunction room inner)) n ts None (t ∷ r) conjunction_fails

  expression_fails : (depth : ℕ) → read_expression depth n ts ≡ failed None (t ∷ r)
  unfolding read_expression
  expression_fails zero = disjunction_fails (room_of 0) (read_plain (read_fault too_deep (begins begins_expression)))
  expression_fails (suc depth) = disjunction_fails (room_of (suc depth)) (read_expression depth)

  row_fails : read_row n ts ≡ failed None (t ∷ r)
  unfolding read_row
  row_fails = rw (expression_fails 64) refl

  item_fails : read_item (λ x. over_class true (class x)) read_row (256, n) ts ≡ failed None (t ∷ r)
  item_fails = rw row_fails refl

  rows_fails : read_rows n ts ≡ failed None (t ∷ r)
  unfolding read_rows
  rows_fails =
      rw (chain_fail (λ a rest. a ∷ rest) (of k.Comma) (read_item (λ x. over_class true (class x)) read_row) (read_counted_past (of k.Comma) (read_item (λ x. over_class true (class x)) read_row)) (256, n) ts None (t ∷ r) item_fails) refl

  items_fails : read_items n ts ≡ failed None (t ∷ r)
  unfolding read_items
  items_fails = rw (begins_it (class s) named, rows_fails) refl

  pub refused : RefusedAt (items n) ts (t ∷ r)
  refused = subst (λ o. Right (items n) ts o) items_fails ((reads-items n).right ts)

-- ---- fronts of items

dot_token : Symbol
dot_token = record { at = 0; token = punctuation k.Dot }

star_token : Symbol
star_token = record { at = 0; token = punctuation k.Star }

is_dot : of k.Dot dot_token ≡ true
unfolding same_class dot_token
is_dot = refl

is_star : of k.Star star_token ≡ true
unfolding same_class star_token
is_star = refl

-- two lists of three, of which the first ends before the third of the other
two_before : (pre : List Symbol) (s d t : Symbol) → s ∷ d ∷ t ∷ [] ≡ pre ++ t ∷ [] → pre ≡ s ∷ d ∷ []
two_before [] s d t h = let p : d ∷ t ∷ [] ≡ [] = cc in absurd (cons_not_nil (d ∷ []) t [] p)
two_before (a ∷ []) s d t h = let p : t ∷ [] ≡ [] = cc in absurd (cons_not_nil [] t [] p)
two_before (a ∷ b ∷ []) s d t h = cc
two_before (a ∷ b ∷ c ∷ pre) s d t h = let p : pre ++ t ∷ [] ≡ [] = cc in absurd (cons_not_nil pre t [] p)

module _ (n : ℕ) (some : n ≡ 0 → ⊥) where
  front_of_dot : (s d : Symbol) → is_path_name (class s) ≡ true → of k.Dot d ≡ true → (items n).Front fits (s ∷ d ∷ [])
  front_of_dot s d named dot =
      let w = refused n some s d star_token [] named dot is_star in
      subst (λ l. (items n).Front fits l) (two_before w.pre s d star_token w.is) w.front

  front_of_name : (s : Symbol) → is_path_name (class s) ≡ true → (items n).Front fits (s ∷ [])
  front_of_name s named = (reads-items n).clear.fronts.closed fits (s ∷ []) dot_token [] (front_of_dot s dot_token named is_dot)

  own_text : (s d t : Symbol) (m : Last Fault) (r : List Symbol) → is_path_name (class s) ≡ true → of k.Dot d ≡ true → of k.Star t ≡ true → (items n).Front m (s ∷ d ∷ t ∷ r) → ⊥
  own_text s d t m r named dot star f = refused_no_front (items n) (s ∷ d ∷ t ∷ r) t r m (refused n some s d t r named dot star) f

-- ---- the texts and fronts of all

abbrev taken_if : {A : Type 0} → Bool → A → Verdict Fault A
taken_if b a = if b then takes a else refuses

took : (b : Bool) (a c : Name) → taken_if b a ≡ takes c → b ≡ true
took true a c h = refl
took false a c h = cc

no_fault : (b : Bool) (a : Name) (j : Fault) → taken_if b a ≡ faults j → ⊥
no_fault true a j h = cc
no_fault false a j h = cc

abbrev starred : Name → Rule Symbol Fault Name
starred a = preceded_by (token (of k.Star)) (nothing a)

abbrev dotted : Name → Rule Symbol Fault Name
dotted a = preceded_by (token (of k.Dot)) (starred a)

reads-starred : (a : Name) → Reads (starred a) (past_sight (of k.Star) nothing_sight) (read_past (of k.Star) (λ ts. found a ts))
reads-starred a = reads-past (of k.Star) (nothing a) nothing_sight (λ ts. found a ts) (reads-nothing a)

reads-dotted : (a : Name) → Reads (dotted a) (past_sight (of k.Dot) (past_sight (of k.Star) nothing_sight)) (read_past (of k.Dot) (read_past (of k.Star) (λ ts. found a ts)))
reads-dotted a = reads-past (of k.Dot) (starred a) (past_sight (of k.Star) nothing_sight) (read_past (of k.Star) (λ ts. found a ts)) (reads-starred a)

reads-all_of : Readable all_of_name (one is_path_name) read_all_of_name
unfolding read_all_of_name
reads-all_of =
    reads-begun path_name dotted (λ a. past_sight (of k.Dot) (past_sight (of k.Star) nothing_sight)) (λ a. read_past (of k.Dot) (read_past (of k.Star) (λ ts. found a ts)))
    (begins is_path_name) (seen_those is_path_name name_of) reads-dotted (λ x. false) (λ a x h. h)

-- a front of all is one of four
data AllFront (last : Last Fault) (ts : List Symbol) : Type 0 where
  front0 : last ≡ fits → ts ≡ [] → AllFront last ts
  front1 : last ≡ fits → (s : Symbol) → is_path_name (class s) ≡ true → ts ≡ s ∷ [] → AllFront last ts
  front2 : last ≡ fits → (s d : Symbol) → is_path_name (class s) ≡ true → of k.Dot d ≡ true → ts ≡ s ∷ d ∷ [] → AllFront last ts
  front3 : last ≡ fits → (s d t : Symbol) → is_path_name (class s) ≡ true → of k.Dot d ≡ true → of k.Star t ≡ true → ts ≡ s ∷ d ∷ t ∷ [] → AllFront last ts

module _ (a : Name) (last : Last Fault) (ts : List Symbol) (s : Symbol) (named : is_path_name (class s) ≡ true) where
  front_starred : (d : Symbol) → of k.Dot d ≡ true → (r : List Symbol) → ts ≡ s ∷ d ∷ r → ((last ≡ fits) × (r ≡ [])) ⊎ ((t : Symbol) × (q : List Symbol) × (r ≡ t ∷ q) × (of k.Star t ≡ true) × (nothing {T = Symbol} {K = Fault} a).Front last q) → AllFront last ts
  front_starred d dot r h (inl f) = front2 f.0 s d named dot (let g = f.1 in cc)
  front_starred d dot r h (inr f) = front3 f.4.0 s d f.0 named dot f.3 (let q = f.4.1 in let g = f.2 in cc)

  front_dotted : (r : List Symbol) → ts ≡ s ∷ r → ((last ≡ fits) × (r ≡ [])) ⊎ ((d : Symbol) × (q : List Symbol) × (r ≡ d ∷ q) × (of k.Dot d ≡ true) × (starred a).Front last q) → AllFront last ts
  front_dotted r h (inl f) = front1 f.0 s named (let g = f.1 in cc)
  front_dotted r h (inr f) =
      front_starred f.0 f.3 f.1 (let g = f.2 in cc) (past_front (of k.Star) (nothing a) (reads-nothing {T = Symbol} {K = Fault} a).clear.fronts last f.1 f.4)

one_named : (last : Last Fault) (s : Symbol) → FrontOfOne path_name last (s ∷ []) → AllFront last (s ∷ [])
one_named fits s f = front1 refl s (took (is_path_name (class s)) (name_of s.token) f.0 f.1) refl
one_named (faulty j) s f = absurd (no_fault (is_path_name (class s)) (name_of s.token) j f)

all_front_cases : (last : Last Fault) (ts : List Symbol) → FrontBehind path_name dotted last ts → AllFront last ts
all_front_cases last ts (no_symbol h f) = front0 h f
all_front_cases last ts (one_symbol s h f) = subst (λ l. AllFront last l) (sym h) (one_named last s f)
all_front_cases last ts (front_behind s a r h f v) =
    front_dotted a last ts s (took (is_path_name (class s)) (name_of s.token) a f) r h (past_front (of k.Dot) (starred a) (reads-starred a).clear.fronts last r v)

all_front : (last : Last Fault) (ts : List Symbol) → all_of_name.Front last ts → AllFront last ts
all_front last ts f = all_front_cases last ts (begun_front path_name dotted last ts f)

-- a text of all
record AllText (ts : List Symbol) : Type 0 where
  s : Symbol
  d : Symbol
  t : Symbol
  named : is_path_name (class s) ≡ true
  dot : of k.Dot d ≡ true
  star : of k.Star t ≡ true
  is_it : ts ≡ s ∷ d ∷ t ∷ []

all_text_cases : (b : Name) (ts : List Symbol) → TextBehind path_name dotted b ts → AllText ts
all_text_cases b ts (text_behind s a r h f v) =
    let x = past_text (of k.Dot) (starred a) b r v in
    let y = past_text (of k.Star) (nothing a) b x.1 x.4 in
    let p = x.2 in
    let q = y.2 in
    let z = y.4.1 in
    record { s = s; d = x.0; t = y.0; named = took (is_path_name (class s)) (name_of s.token) a f; dot = x.3; star = y.3; is_it = cc }

all_text : (b : Name) (ts : List Symbol) → all_of_name.Spells b ts → AllText ts
all_text b ts w = all_text_cases b ts (begun_text path_name dotted b ts w)

takes_it : (b : Bool) (a : Name) → b ≡ true → taken_if b a ≡ takes a
takes_it b a h = rw h refl

takes_symbol : (b : Bool) (s : Symbol) → b ≡ true → taken_if b s ≡ takes s
takes_symbol b s h = rw h refl

text_of_all : (s d t : Symbol) → is_path_name (class s) ≡ true → of k.Dot d ≡ true → of k.Star t ≡ true → all_of_name.Spells (name_of s.token) (s ∷ d ∷ t ∷ [])
text_of_all s d t named dot star = record {
  value = name_of s.token;
  left = s ∷ [];
  right = d ∷ t ∷ [];
  joined = refl;
  whole = takes_it (is_path_name (class s)) (name_of s.token) named;
  after = record {
    value = d;
    left = d ∷ [];
    right = t ∷ [];
    joined = refl;
    whole = takes_symbol (of k.Dot d) d dot;
    after = record { value = t; left = t ∷ []; right = []; joined = refl; whole = takes_symbol (of k.Star t) t star; after = (refl, refl) };
  };
}

not_faulty : (j : Fault) (ts : List Symbol) → AllFront (faulty j) ts → ⊥
not_faulty j ts (front0 l h) = cc
not_faulty j ts (front1 l s a h) = cc
not_faulty j ts (front2 l s d a b h) = cc
not_faulty j ts (front3 l s d t a b c h) = cc

ends_there : (pre : List Symbol) (t x y z : Symbol) → pre ++ t ∷ [] ≡ x ∷ y ∷ z ∷ [] → t ≡ z
ends_there [] t x y z h = cc
ends_there (p ∷ []) t x y z h = cc
ends_there (p ∷ q ∷ []) t x y z h = cc
ends_there (p ∷ q ∷ s ∷ pre) t x y z h = let n : pre ++ t ∷ [] ≡ [] = cc in absurd (cons_not_nil pre t [] n)

-- ---- what is selected

module _ (n : ℕ) (some : n ≡ 0 → ⊥) where
  abbrev listed_items : Rule Symbol Fault (Selected × ℕ)
  listed_items = given selected items n

  abbrev named_all : Rule Symbol Fault (Selected × ℕ)
  named_all = plain (made everything_of all_of_name) n

  shared_cases : (ts : List Symbol) → AllFront fits ts → listed_items.Front fits ts ⊎ ((a : Selected × ℕ) × named_all.Spells a ts)
  shared_cases ts (front0 l h) = inl (rw h (reads-items n).clear.fronts.nil)
  shared_cases ts (front1 l s a h) = inl (rw h (front_of_name n some s a))
  shared_cases ts (front2 l s d a b h) = inl (rw h (front_of_dot n some s d a b))
  shared_cases ts (front3 l s d t a b c h) =
      inr ((everything_of (name_of s.token), n), (everything_of (name_of s.token), refl, (name_of s.token, refl, rw h (text_of_all s d t a b c))))

  own_cases : (pre : List Symbol) (m : Last Fault) (r : List Symbol) → AllText pre → (items n).Front m (pre ++ r) → ⊥
  own_cases pre m r x f = own_text n some x.s x.d x.t m r x.named x.dot x.star (subst (λ l. (items n).Front m (l ++ r)) x.is_it f)

  star_ends : (pre : List Symbol) (t : Symbol) → AllText (pre ++ t ∷ []) → of k.Star t ≡ true
  star_ends pre t x = rw (ends_there pre t x.s x.d x.t x.is_it) x.star

  ahead : Ahead listed_items named_all (of k.Star)
  ahead = record {
    shared = λ ts f. shared_cases ts (all_front fits ts f);
    own = λ a pre m r w f. own_cases pre m r (all_text w.2.0 pre w.2.2) f;
    faultless = λ j ts f. not_faulty j ts (all_front (faulty j) ts f);
    ends = λ a b pre t w v. star_ends pre t (all_text v.2.0 (pre ++ t ∷ []) v.2.2);
  }

  abbrev named_sight : Sight Class
  named_sight = one is_path_name

  abbrev either_more : Class → Bool
  either_more c = is k.Star c || items_sight.more c

  abbrev items_or_all : Sight Class
  items_or_all = seen items_sight.first either_more

  abbrev read_named : List Symbol → Outcome Symbol Fault (Selected × ℕ)
  read_named = read_plain (λ ts. read_made everything_of (read_all_of_name ts)) n

  reads-ahead_items : Readable (either listed_items named_all) items_or_all (read_ahead (read_given selected read_items n) read_named)
  unfolding same_class
  reads-ahead_items =
      reads_by class all_classes every (ahead_sight items_sight named_sight (is k.Star)) (either listed_items named_all) items_or_all (read_ahead (read_given selected read_items n) read_named) refl
      (reads-ahead listed_items named_all (on items_sight) (on named_sight) (of k.Star) (read_given selected read_items n) read_named
      (as_given selected items items_sight read_items reads-items n)
      (plainly (made everything_of all_of_name) named_sight (λ ts. read_made everything_of (read_all_of_name ts)) (reads-made everything_of all_of_name (on named_sight) read_all_of_name reads-all_of) n)
      ahead refl)

  abbrev star_rule : Counting Selected
  star_rule = plain (made (λ s. everything) (token (of k.Star)))

  abbrev list_first : Class → Bool
  list_first c = is k.Star c || items_sight.first c

  pub reads-list : Readable (selection_list n) (seen (λ c. is k.Star c || items_sight.first c) (λ c. is k.Star c || items_sight.more c)) (read_list n)
  unfolding selection_list read_list same_class
  reads-list =
      reads_by class all_classes every (either_sight (one (is k.Star)) items_or_all) (either (star_rule n) (either listed_items named_all)) (seen list_first either_more)
      (read_either (of k.Star) (read_plain (λ ts. read_made (λ s. everything) (read_terminal (word k.Star) ts)) n) (read_ahead (read_given selected read_items n) read_named)) refl
      (reads-either (star_rule n) (either listed_items named_all) (on (one (is k.Star))) (on items_or_all)
      (read_plain (λ ts. read_made (λ s. everything) (read_terminal (word k.Star) ts)) n) (read_ahead (read_given selected read_items n) read_named)
      (plainly (made (λ s. everything) (token (of k.Star))) (one (is k.Star)) (λ ts. read_made (λ s. everything) (read_terminal (word k.Star) ts))
      (reads-made (λ s. everything) (token (of k.Star)) (on (one (is k.Star))) (read_terminal (word k.Star)) (reads_terminal (word k.Star) (is k.Star) (seen_word k.Star))) n)
      reads-ahead_items (distinct_by class all_classes every (one (is k.Star)) items_or_all refl) refl)
