-- Every expression is told again, at each depth.
use Rattle.std.proofs.Common.{◌≡◌, ℕ, zero, suc, ◌+◌, nat_le, Bool, true, false, List, sym, arith, if◌then◌else◌}
use Rattle.std.proofs.lemmas.Bool.{leb-true}
use Rattle.sql_tokens.specs.declared.class.Class.TheVariants as k
use Rattle.sql_tokens.specs.Cutting.{Symbol}
use Rattle.grammar_rules.specs.Rules.{Verdict, takes, faults, refuses, fault}
use Rattle.grammar_rules.specs.Counted.{plain}
use Rattle.sql_grammar.specs.declared.tree.Expr.{Expr}
use Rattle.sql_grammar.specs.Marks.{Fault, unknown_function, unsupported_type, too_deep, too_many, class, of, is_unknown_call, begins_expression, literal_text, literal_number, truth, untruth, null_form, missing_form, path_form, unknown_call, exponent_form, cast_form, group_form, case_form, coalesce_form, nullif_form, char_length_form, lower_form, upper_form, substring_form, trim_form, extract_form, date_add_form, to_timestamp_form}
use Rattle.sql_grammar.specs.Expressions.{room_of, opening, primary_of, primary, expression}
use Rattle.sql_printed.specs.Shown.{shown, at, enclosed_text}
use Rattle.sql_printed.proofs.Telling.{cuts-into, told-as}
use Rattle.sql_printed.proofs.Words.{if_true}
use Rattle.sql_printed.proofs.Again.{AllGood, taken_one, counted_one, Again}
use Rattle.sql_printed.proofs.Enclosed.{open_room}
use Rattle.sql_printed.proofs.Levels.{inner_of, rule_at, Own, own-inside, lifts, to_expression, from_expression}
use Rattle.sql_printed.proofs.Operators.{Owned, owned-unary, owned-prod, owned-sum, owned-negation, owned-conjunction, owned-disjunction}
use Rattle.sql_printed.proofs.Sentences.{owned-pred}
use Rattle.sql_printed.proofs.Calls.{own-lower, own-upper, own-char_length, own-to_timestamp, own-nullif}
use Rattle.sql_printed.proofs.Primaries.{own-text, own-truth, own-untruth, own-null, own-missing, own-parentheses, own-coalesce, own-extract, own-substring, own-date_add}
use Rattle.sql_printed.proofs.Decimals.{own-number}
use Rattle.sql_printed.proofs.Paths.{own-path}
use Rattle.sql_printed.proofs.Casts.{own-cast}
use Rattle.sql_printed.proofs.Cases.{own-case}
use Rattle.sql_printed.proofs.Trims.{own-trim}

-- ---- faults spell nothing

abbrev any_verdict : {A : Type 0} → Verdict Fault A → Verdict Fault A
any_verdict v = v

no_fault : {A : Type 0} (j : Fault) (t : Bool) (a : A) → any_verdict {A = A} (if t then faults j else refuses) ≡ takes a → ⊥
no_fault j true a e = cc
no_fault j false a e = cc

fault_spells : {A B : Type 0} (j : Fault) (test : Symbol → Bool) (n : ℕ) (p : A × ℕ) (ts : List Symbol) → (plain (fault {A = A} j test) n).Spells p ts → B
fault_spells j test n p ts w =
    let t = taken_one (λ t. if test t then faults j else refuses) w.0 ts w.2 in
    absurd (no_fault j (test t.symbol) w.0 t.taken)

-- ---- what stands between brackets, and in parentheses

record Inside (d : ℕ) : Type 0 where
  parts : Again (inner_of d) inner_of d (λ x. (shown x).text)
  members : Again (inner_of d) inner_of d (λ x. at 7 (shown x))
  group : (n : ℕ) (p : Expr × ℕ) (ts : List Symbol) → AllGood ts → (primary_of (room_of d) (inner_of d) group_form n).Spells p ts → Own d n p.1 0 p.0

owned-primary : (d : ℕ) → Inside d → Owned d 0
unfolding primary
owned-primary d i n p ts g (literal_text, w) = own-text d n p ts g w
owned-primary d i n p ts g (literal_number, w) = own-number d n p ts g w
owned-primary d i n p ts g (truth, w) = own-truth d n p ts g w
owned-primary d i n p ts g (untruth, w) = own-untruth d n p ts g w
owned-primary d i n p ts g (null_form, w) = own-null d n p ts g w
owned-primary d i n p ts g (missing_form, w) = own-missing d n p ts g w
owned-primary d i n p ts g (path_form, w) = own-path d n p ts g w
owned-primary d i n p ts g (unknown_call, w) = fault_spells unknown_function (λ s. is_unknown_call (class s)) n p ts w
owned-primary d i n p ts g (exponent_form, w) = fault_spells unsupported_type (of k.ExponentNumber) n p ts w
owned-primary d i n p ts g (cast_form, w) = own-cast d i.parts n p ts g w
owned-primary d i n p ts g (group_form, w) = i.group n p ts g w
owned-primary d i n p ts g (case_form, w) = own-case d i.parts n p ts g w
owned-primary d i n p ts g (coalesce_form, w) = own-coalesce d i.members n p ts g w
owned-primary d i n p ts g (nullif_form, w) = own-nullif d i.parts n p ts g w
owned-primary d i n p ts g (char_length_form, w) = own-char_length d i.parts n p ts g w
owned-primary d i n p ts g (lower_form, w) = own-lower d i.parts n p ts g w
owned-primary d i n p ts g (upper_form, w) = own-upper d i.parts n p ts g w
owned-primary d i n p ts g (substring_form, w) = own-substring d i.parts n p ts g w
owned-primary d i n p ts g (trim_form, w) = own-trim d i.parts n p ts g w
owned-primary d i n p ts g (extract_form, w) = own-extract d i.parts n p ts g w
owned-primary d i n p ts g (date_add_form, w) = own-date_add d i.parts n p ts g w
owned-primary d i n p ts g (to_timestamp_form, w) = own-to_timestamp d i.parts n p ts g w

owned : (d : ℕ) → Inside d → Owned d 7
owned d i =
    let sums = owned-sum d (owned-prod d (owned-unary d (owned-primary d i))) in
    owned-disjunction d (owned-conjunction d (owned-negation d (owned-pred d sums i.members)))

member_text : (x : Expr) → nat_le (shown x).height 7 ≡ true → (shown x).text ≡ at 7 (shown x)
member_text x e = sym (if_true (nat_le (shown x).height 7) (shown x).text (enclosed_text (shown x).text) e)

inside_none : Inside 0
inside_none = record {
  parts = λ n p ts g w. fault_spells too_deep (λ s. begins_expression (class s)) n p ts w;
  members = λ n p ts g w. fault_spells too_deep (λ s. begins_expression (class s)) n p ts w;
  group = λ n p ts g j.
      let c = counted_one too_many (opening (room_of 0).here k.LeftParenthesis) n j.value j.left j.whole in
      let r = open_room (room_of 0).here k.LeftParenthesis c.one.symbol j.value.0 c.one.taken in
      absurd (let no : ⊥ = cc in no);
}

inside_more : (d : ℕ) → Owned d 7 → Inside (suc d)
inside_more d o = record {
  parts = λ n p ts g w. own-inside d n p.1 p.0 (o n p ts g (from_expression d n p ts w));
  members = λ n p ts g w.
      let own = o n p ts g (from_expression d n p ts w) in
      told-as inner_of (suc d) n p.1 p.0 (shown p.0).text (own-inside d n p.1 p.0 own) (at 7 (shown p.0)) (member_text p.0 own.low);
  group = own-parentheses d (λ n p ts g w. o n p ts g (from_expression d n p ts w));
}

inside : (d : ℕ) → Inside d
inside zero = inside_none
inside (suc d) = inside_more d (owned d (inside d))

-- ---- expressions

-- an expression that was spelled at this depth is told at this depth
pub expression_again : (d : ℕ) → Again (expression d) (λ f. expression d) 0 (λ x. (shown x).text)
expression_again d n p ts g w =
    let o = owned d (inside d) n p ts g (from_expression d n p ts w) in
    record {
      used = o.used;
      within = let a = o.within in omega arith;
      prints = λ f below j place rest c.
          cuts-into (rule_at (shown p.0).height d (o.used + j)) (expression d (o.used + j)) (p.0, j) (p.0, j) (shown p.0).text rest place
          (λ us v. to_expression d (o.used + j) (p.0, j) us (lifts (shown p.0).height 7 d (o.used + j) (p.0, j) us (leb-true (shown p.0).height 7 o.low) v))
          (o.prints d (let a = o.deep in omega arith) j place rest c);
    }
