-- The forms of a primary, as the parser reads them.
use Rattle.std.proofs.Common.{◌≡◌, ℕ, Bool, true, false, List, [], ◌∷◌, Some, None, refl, sym, ap, ◌∙◌}
use Rattle.sql_tokens.specs.declared.class.Class.{Class}
use Rattle.sql_tokens.specs.declared.class.Class.TheVariants as k
use Rattle.sql_tokens.specs.Classes.{same_class}
use Rattle.sql_tokens.specs.Cutting.{Symbol, first_class}
use Rattle.sql_tokens.proofs.ClassLaws.{same_is}
use Rattle.sql_grammar.specs.declared.tree.Expr.{Expr}
use Rattle.sql_grammar.specs.declared.tree.Expr.TheVariants as e
use Rattle.grammar_rules.specs.Readers.{Outcome, found, failed, and_then, read_made, read_terminal, read_before, starts}
use Rattle.grammar_rules.specs.CountedReaders.{read_one_more}
use Rattle.sql_grammar.specs.Marks.{Fault, unknown_function, unsupported_type, too_many, class, of, is_path_name, is_unknown_call, is_number, Form, path_form, unknown_call, exponent_form, text_in, number_in, literal_text, literal_number, truth, untruth, null_form, missing_form, form_of}
use Rattle.sql_grammar.specs.Expressions.{Room, word, opening}
use Rattle.sql_grammar.specs.Readers.{Reader, read_literal, read_enclosed, read_path, read_call, read_group, read_case, read_case_rest, read_primary_of, read_primary}
use Rattle.sql_leaves.specs.Parsing.{is_function, read_open, read_counted_open}
use Rattle.sql_expressions.specs.Parsing.{read_arguments, read_in_brackets, read_function, read_bracketed, read_case_told, is_constant, read_constant, read_simple}
use Rattle.sql_leaves.proofs.CountedSteps.{constant_is}

pub not_true : false ≡ true → ⊥
not_true h = cc

pub not_false : true ≡ false → ⊥
not_false h = cc

-- a value that isn't looked at may be dropped
pub and_dropped : {A B : Type 0} (o : Outcome Symbol Fault A) (next : List Symbol → Outcome Symbol Fault B) → and_then o (λ a left. next left) ≡ and_then (read_made {B = Unit {0}} (λ a. tt) o) (λ u left. next left)
and_dropped (found a left) next = refl
and_dropped (failed j left) next = refl

pub and_counted : {A B : Type 0} (o : Outcome Symbol Fault (A × ℕ)) (next other : ℕ → List Symbol → Outcome Symbol Fault B) → ((n : ℕ) (left : List Symbol) → next n left ≡ other n left) → and_then o (λ p left. next p.1 left) ≡ and_then (read_made {B = Unit {0} × ℕ} (λ p. (tt, p.1)) o) (λ p left. other p.1 left)
and_counted (found p left) next other h = h p.1 left
and_counted (failed j left) next other h = refl

pub enclosed_is : {A : Type 0} (room : Bool) (read : Reader A) (n : ℕ) (ts : List Symbol) → read_enclosed room read n ts ≡ read_in_brackets room read n ts
unfolding read_in_brackets read_open
enclosed_is room read n ts = and_dropped (read_terminal (opening room k.LeftParenthesis) ts) (λ left. read_before (of k.RightParenthesis) (read n) left)

module _ (room : Room) (inner : Reader Expr) where
  call_is : (c : Class) (arguments : Reader Expr) (n : ℕ) (ts : List Symbol) → read_call room inner c arguments n ts ≡ read_function room.here c arguments n ts
  unfolding read_function
  call_is c arguments n ts = and_counted (read_one_more too_many (word c) n ts) (λ m left. read_enclosed room.here arguments m left) (λ m left. read_in_brackets room.here arguments m left) (λ m left. enclosed_is room.here arguments m left)

  group_is : (n : ℕ) (ts : List Symbol) → read_group room inner n ts ≡ read_bracketed room.here inner n ts
  unfolding read_group read_bracketed read_counted_open
  group_is n ts = and_counted (read_one_more too_many (opening room.here k.LeftParenthesis) n ts) (λ m left. read_before (of k.RightParenthesis) (inner m) left) (λ m left. read_before (of k.RightParenthesis) (inner m) left) (λ m left. refl)

  case_is : (n : ℕ) (ts : List Symbol) → read_case room inner n ts ≡ read_case_told room.here (read_case_rest room inner) n ts
  unfolding read_case read_case_told read_counted_open
  case_is n ts = and_counted (read_one_more too_many (opening room.here k.Case) n ts) (λ m left. read_case_rest room inner m left) (λ m left. read_case_rest room inner m left) (λ m left. refl)

by_path : (c : Class) → is_path_name c ≡ true → form_of c ≡ Some path_form
by_path k.Name h = refl
by_path k.QuotedName h = refl
by_path k.S3Object h = refl
by_path k.For h = refl
by_path k.BoolType h = refl
by_path k.IntType h = refl
by_path k.StringType h = refl
by_path k.TimestampType h = refl
by_path k.DecimalType h = refl
by_path k.Year h = refl
by_path k.Month h = refl
by_path k.Day h = refl
by_path k.Hour h = refl
by_path k.Minute h = refl
by_path k.Second h = refl
by_path k.TimezoneHour h = refl
by_path k.TimezoneMinute h = refl
by_path _ h = absurd (not_true h)

by_unknown : (c : Class) → is_unknown_call c ≡ true → form_of c ≡ Some unknown_call
by_unknown k.NameCalled h = refl
by_unknown k.QuotedNameCalled h = refl
by_unknown k.S3ObjectCalled h = refl
by_unknown k.ForCalled h = refl
by_unknown k.BoolTypeCalled h = refl
by_unknown k.IntTypeCalled h = refl
by_unknown k.StringTypeCalled h = refl
by_unknown k.TimestampTypeCalled h = refl
by_unknown k.DecimalTypeCalled h = refl
by_unknown k.YearCalled h = refl
by_unknown k.MonthCalled h = refl
by_unknown k.DayCalled h = refl
by_unknown k.HourCalled h = refl
by_unknown k.MinuteCalled h = refl
by_unknown k.SecondCalled h = refl
by_unknown k.TimezoneHourCalled h = refl
by_unknown k.TimezoneMinuteCalled h = refl
by_unknown _ h = absurd (not_true h)

by_exponent : (c : Class) → same_class k.ExponentNumber c ≡ true → form_of c ≡ Some exponent_form
by_exponent c h = let q : k.ExponentNumber ≡ c = same_is k.ExponentNumber c h in rw (← q) refl

-- a word that is an expression
simple_constant : (n : ℕ) (s : Symbol) (ts : List Symbol) → same_class k.Text (class s) ≡ false → is_number (class s) ≡ false → is_constant (class s) ≡ true → read_simple n (s ∷ ts) ≡ read_constant (class s) n (s ∷ ts)
unfolding read_simple
simple_constant n s ts a b c = rw (a, b, c) refl

simple_text : (n : ℕ) (s : Symbol) (ts : List Symbol) → same_class k.Text (class s) ≡ true → read_simple n (s ∷ ts) ≡ read_literal (same_class k.Text) (λ x. e.Text (text_in x.token)) n (s ∷ ts)
unfolding read_simple
simple_text n s ts a = rw a refl

simple_number : (n : ℕ) (s : Symbol) (ts : List Symbol) → same_class k.Text (class s) ≡ false → is_number (class s) ≡ true → read_simple n (s ∷ ts) ≡ read_literal is_number (λ x. e.Number (number_in x.token)) n (s ∷ ts)
unfolding read_simple
simple_number n s ts a b = rw (a, b) refl

simple_none : (n : ℕ) (s : Symbol) (ts : List Symbol) → same_class k.Text (class s) ≡ false → is_number (class s) ≡ false → is_constant (class s) ≡ false → read_simple n (s ∷ ts) ≡ failed None (s ∷ ts)
unfolding read_simple
simple_none n s ts a b c = rw (a, b, c) refl

module _ (room : Room) (inner : Reader Expr) (n : ℕ) where
  formed : (f : Form) (s : Symbol) (ts : List Symbol) → form_of (class s) ≡ Some f → read_primary room inner n (s ∷ ts) ≡ read_primary_of room inner f n (s ∷ ts)
  unfolding read_primary
  formed f s ts h = rw h refl

  formless : (s : Symbol) (ts : List Symbol) → form_of (class s) ≡ None → read_primary room inner n (s ∷ ts) ≡ failed None (s ∷ ts)
  unfolding read_primary
  formless s ts h = rw h refl

  pub primary_path : (ts : List Symbol) → is_path_name (first_class ts) ≡ true → read_primary room inner n ts ≡ read_path n ts
  unfolding read_primary read_primary_of
  primary_path [] h = let p : false ≡ true = h in cc
  primary_path (s ∷ ts) h = rw (by_path (class s) h) refl

  pub primary_unknown : (ts : List Symbol) → is_unknown_call (first_class ts) ≡ true → read_primary room inner n ts ≡ failed (Some unknown_function) ts
  unfolding read_primary read_primary_of
  primary_unknown [] h = let p : false ≡ true = h in cc
  primary_unknown (s ∷ ts) h = rw (by_unknown (class s) h, h) refl

  pub primary_exponent : (ts : List Symbol) → starts (of k.ExponentNumber) ts ≡ true → read_primary room inner n ts ≡ failed (Some unsupported_type) ts
  unfolding read_primary read_primary_of
  primary_exponent [] h = let p : false ≡ true = h in cc
  primary_exponent (s ∷ ts) h = rw (by_exponent (class s) h, h) refl

  pub primary_group : (ts : List Symbol) → starts (of k.LeftParenthesis) ts ≡ true → read_primary room inner n ts ≡ read_bracketed room.here inner n ts
  unfolding read_primary read_primary_of
  primary_group [] h = let p : false ≡ true = h in cc
  primary_group (s ∷ ts) h = let q : k.LeftParenthesis ≡ class s = same_is k.LeftParenthesis (class s) h in rw (← q) (group_is room inner n (s ∷ ts))

  pub primary_case : (ts : List Symbol) → starts (of k.Case) ts ≡ true → read_primary room inner n ts ≡ read_case_told room.here (read_case_rest room inner) n ts
  unfolding read_primary read_primary_of
  primary_case [] h = let p : false ≡ true = h in cc
  primary_case (s ∷ ts) h = let q : k.Case ≡ class s = same_is k.Case (class s) h in rw (← q) (case_is room inner n (s ∷ ts))

  by_function : (c : Class) (s : Symbol) (ts : List Symbol) → is_function c ≡ true → class s ≡ c → read_primary room inner n (s ∷ ts) ≡ read_function room.here c (read_arguments room inner c) n (s ∷ ts)
  unfolding read_primary read_primary_of
  by_function k.Cast s ts h q = rw q (call_is room inner k.Cast (read_arguments room inner k.Cast) n (s ∷ ts))
  by_function k.CoalesceCalled s ts h q = rw q (call_is room inner k.CoalesceCalled (read_arguments room inner k.CoalesceCalled) n (s ∷ ts))
  by_function k.NullifCalled s ts h q = rw q (call_is room inner k.NullifCalled (read_arguments room inner k.NullifCalled) n (s ∷ ts))
  by_function k.CharLengthCalled s ts h q = rw q (call_is room inner k.CharLengthCalled (read_arguments room inner k.CharLengthCalled) n (s ∷ ts))
  by_function k.LowerCalled s ts h q = rw q (call_is room inner k.LowerCalled (read_arguments room inner k.LowerCalled) n (s ∷ ts))
  by_function k.UpperCalled s ts h q = rw q (call_is room inner k.UpperCalled (read_arguments room inner k.UpperCalled) n (s ∷ ts))
  by_function k.SubstringCalled s ts h q = rw q (call_is room inner k.SubstringCalled (read_arguments room inner k.SubstringCalled) n (s ∷ ts))
  by_function k.TrimCalled s ts h q = rw q (call_is room inner k.TrimCalled (read_arguments room inner k.TrimCalled) n (s ∷ ts))
  by_function k.ExtractCalled s ts h q = rw q (call_is room inner k.ExtractCalled (read_arguments room inner k.ExtractCalled) n (s ∷ ts))
  by_function k.DateAddCalled s ts h q = rw q (call_is room inner k.DateAddCalled (read_arguments room inner k.DateAddCalled) n (s ∷ ts))
  by_function k.ToTimestampCalled s ts h q = rw q (call_is room inner k.ToTimestampCalled (read_arguments room inner k.ToTimestampCalled) n (s ∷ ts))
  by_function _ s ts h q = absurd (not_true h)

  pub primary_function : (ts : List Symbol) → is_function (first_class ts) ≡ true → read_primary room inner n ts ≡ read_function room.here (first_class ts) (read_arguments room inner (first_class ts)) n ts
  primary_function [] h = let p : false ≡ true = h in cc
  primary_function (s ∷ ts) h = by_function (class s) s ts h refl

  by_simple : (c : Class) (s : Symbol) (ts : List Symbol) → class s ≡ c → is_path_name c ≡ false → is_function c ≡ false → is_unknown_call c ≡ false → same_class k.ExponentNumber c ≡ false → same_class k.LeftParenthesis c ≡ false → same_class k.Case c ≡ false → read_primary room inner n (s ∷ ts) ≡ read_simple n (s ∷ ts)
  unfolding read_primary read_primary_of read_simple same_class
  by_simple k.Name s ts q h1 h2 h3 h4 h5 h6 = absurd (not_false h1)
  by_simple k.QuotedName s ts q h1 h2 h3 h4 h5 h6 = absurd (not_false h1)
  by_simple k.S3Object s ts q h1 h2 h3 h4 h5 h6 = absurd (not_false h1)
  by_simple k.For s ts q h1 h2 h3 h4 h5 h6 = absurd (not_false h1)
  by_simple k.BoolType s ts q h1 h2 h3 h4 h5 h6 = absurd (not_false h1)
  by_simple k.IntType s ts q h1 h2 h3 h4 h5 h6 = absurd (not_false h1)
  by_simple k.StringType s ts q h1 h2 h3 h4 h5 h6 = absurd (not_false h1)
  by_simple k.TimestampType s ts q h1 h2 h3 h4 h5 h6 = absurd (not_false h1)
  by_simple k.DecimalType s ts q h1 h2 h3 h4 h5 h6 = absurd (not_false h1)
  by_simple k.Year s ts q h1 h2 h3 h4 h5 h6 = absurd (not_false h1)
  by_simple k.Month s ts q h1 h2 h3 h4 h5 h6 = absurd (not_false h1)
  by_simple k.Day s ts q h1 h2 h3 h4 h5 h6 = absurd (not_false h1)
  by_simple k.Hour s ts q h1 h2 h3 h4 h5 h6 = absurd (not_false h1)
  by_simple k.Minute s ts q h1 h2 h3 h4 h5 h6 = absurd (not_false h1)
  by_simple k.Second s ts q h1 h2 h3 h4 h5 h6 = absurd (not_false h1)
  by_simple k.TimezoneHour s ts q h1 h2 h3 h4 h5 h6 = absurd (not_false h1)
  by_simple k.TimezoneMinute s ts q h1 h2 h3 h4 h5 h6 = absurd (not_false h1)
  by_simple k.Cast s ts q h1 h2 h3 h4 h5 h6 = absurd (not_false h2)
  by_simple k.CoalesceCalled s ts q h1 h2 h3 h4 h5 h6 = absurd (not_false h2)
  by_simple k.NullifCalled s ts q h1 h2 h3 h4 h5 h6 = absurd (not_false h2)
  by_simple k.CharLengthCalled s ts q h1 h2 h3 h4 h5 h6 = absurd (not_false h2)
  by_simple k.LowerCalled s ts q h1 h2 h3 h4 h5 h6 = absurd (not_false h2)
  by_simple k.UpperCalled s ts q h1 h2 h3 h4 h5 h6 = absurd (not_false h2)
  by_simple k.SubstringCalled s ts q h1 h2 h3 h4 h5 h6 = absurd (not_false h2)
  by_simple k.TrimCalled s ts q h1 h2 h3 h4 h5 h6 = absurd (not_false h2)
  by_simple k.ExtractCalled s ts q h1 h2 h3 h4 h5 h6 = absurd (not_false h2)
  by_simple k.DateAddCalled s ts q h1 h2 h3 h4 h5 h6 = absurd (not_false h2)
  by_simple k.ToTimestampCalled s ts q h1 h2 h3 h4 h5 h6 = absurd (not_false h2)
  by_simple k.NameCalled s ts q h1 h2 h3 h4 h5 h6 = absurd (not_false h3)
  by_simple k.QuotedNameCalled s ts q h1 h2 h3 h4 h5 h6 = absurd (not_false h3)
  by_simple k.S3ObjectCalled s ts q h1 h2 h3 h4 h5 h6 = absurd (not_false h3)
  by_simple k.ForCalled s ts q h1 h2 h3 h4 h5 h6 = absurd (not_false h3)
  by_simple k.BoolTypeCalled s ts q h1 h2 h3 h4 h5 h6 = absurd (not_false h3)
  by_simple k.IntTypeCalled s ts q h1 h2 h3 h4 h5 h6 = absurd (not_false h3)
  by_simple k.StringTypeCalled s ts q h1 h2 h3 h4 h5 h6 = absurd (not_false h3)
  by_simple k.TimestampTypeCalled s ts q h1 h2 h3 h4 h5 h6 = absurd (not_false h3)
  by_simple k.DecimalTypeCalled s ts q h1 h2 h3 h4 h5 h6 = absurd (not_false h3)
  by_simple k.YearCalled s ts q h1 h2 h3 h4 h5 h6 = absurd (not_false h3)
  by_simple k.MonthCalled s ts q h1 h2 h3 h4 h5 h6 = absurd (not_false h3)
  by_simple k.DayCalled s ts q h1 h2 h3 h4 h5 h6 = absurd (not_false h3)
  by_simple k.HourCalled s ts q h1 h2 h3 h4 h5 h6 = absurd (not_false h3)
  by_simple k.MinuteCalled s ts q h1 h2 h3 h4 h5 h6 = absurd (not_false h3)
  by_simple k.SecondCalled s ts q h1 h2 h3 h4 h5 h6 = absurd (not_false h3)
  by_simple k.TimezoneHourCalled s ts q h1 h2 h3 h4 h5 h6 = absurd (not_false h3)
  by_simple k.TimezoneMinuteCalled s ts q h1 h2 h3 h4 h5 h6 = absurd (not_false h3)
  by_simple k.ExponentNumber s ts q h1 h2 h3 h4 h5 h6 = absurd (not_false h4)
  by_simple k.LeftParenthesis s ts q h1 h2 h3 h4 h5 h6 = absurd (not_false h5)
  by_simple k.Case s ts q h1 h2 h3 h4 h5 h6 = absurd (not_false h6)
  by_simple k.True s ts q h1 h2 h3 h4 h5 h6 = formed truth s ts (rw q refl) ∙ (constant_is k.True (e.Bool true) n (s ∷ ts) ∙ (sym (ap (λ d. read_constant d n (s ∷ ts)) q) ∙ sym (simple_constant n s ts (rw q refl) (rw q refl) (rw q refl))))
  by_simple k.False s ts q h1 h2 h3 h4 h5 h6 = formed untruth s ts (rw q refl) ∙ (constant_is k.False (e.Bool false) n (s ∷ ts) ∙ (sym (ap (λ d. read_constant d n (s ∷ ts)) q) ∙ sym (simple_constant n s ts (rw q refl) (rw q refl) (rw q refl))))
  by_simple k.Null s ts q h1 h2 h3 h4 h5 h6 = formed null_form s ts (rw q refl) ∙ (constant_is k.Null e.Null n (s ∷ ts) ∙ (sym (ap (λ d. read_constant d n (s ∷ ts)) q) ∙ sym (simple_constant n s ts (rw q refl) (rw q refl) (rw q refl))))
  by_simple k.Missing s ts q h1 h2 h3 h4 h5 h6 = formed missing_form s ts (rw q refl) ∙ (constant_is k.Missing e.Missing n (s ∷ ts) ∙ (sym (ap (λ d. read_constant d n (s ∷ ts)) q) ∙ sym (simple_constant n s ts (rw q refl) (rw q refl) (rw q refl))))
  by_simple k.Text s ts q h1 h2 h3 h4 h5 h6 = formed literal_text s ts (rw q refl) ∙ sym (simple_text n s ts (rw q refl))
  by_simple k.WholeNumber s ts q h1 h2 h3 h4 h5 h6 = formed literal_number s ts (rw q refl) ∙ sym (simple_number n s ts (rw q refl) (rw q refl))
  by_simple k.PointNumber s ts q h1 h2 h3 h4 h5 h6 = formed literal_number s ts (rw q refl) ∙ sym (simple_number n s ts (rw q refl) (rw q refl))
  by_simple _ s ts q h1 h2 h3 h4 h5 h6 = formless s ts (rw q refl) ∙ sym (simple_none n s ts (rw q refl) (rw q refl) (rw q refl))

  pub primary_simple : (ts : List Symbol) → is_path_name (first_class ts) ≡ false → is_function (first_class ts) ≡ false → is_unknown_call (first_class ts) ≡ false → starts (of k.ExponentNumber) ts ≡ false → starts (of k.LeftParenthesis) ts ≡ false → starts (of k.Case) ts ≡ false → read_primary room inner n ts ≡ read_simple n ts
  unfolding read_primary read_simple
  primary_simple [] h1 h2 h3 h4 h5 h6 = refl
  primary_simple (s ∷ ts) h1 h2 h3 h4 h5 h6 = by_simple (class s) s ts refl h1 h2 h3 h4 h5 h6
