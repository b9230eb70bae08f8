-- A primary is read: its forms begin apart.
use Rattle.std.proofs.Common.{◌≡◌, ℕ, ◌==◌, Bool, true, false, List, [], ◌∷◌, Option, Some, None, refl, sym, ap, ◌∙◌, if◌then◌else◌}
use Rattle.std.specs.List.{list_all, slice_get}
use Rattle.sql_tokens.specs.declared.class.Class.{Class}
use Rattle.sql_tokens.specs.declared.class.Class.TheVariants as k
use Rattle.sql_tokens.specs.Classes.{same_class, all_classes}
use Rattle.sql_tokens.specs.Cutting.{Symbol}
use Rattle.sql_tokens.proofs.ClassLaws.{every}
use Rattle.sql_grammar.specs.declared.tree.Expr.{Expr}
use Rattle.sql_grammar.specs.declared.tree.Expr.TheVariants as e
use Rattle.grammar_rules.specs.Rules.{takes, refuses, fault}
use Rattle.grammar_rules.specs.Readers.{read_fault}
use Rattle.grammar_rules.specs.Counted.{plain}
use Rattle.grammar_rules.specs.CountedReaders.{read_plain}
use Rattle.grammar_rules.proofs.Clear.{Sight}
use Rattle.grammar_rules.proofs.Reading.{reads-fault}
use Rattle.grammar_rules.proofs.Classes.{agree}
use Rattle.sql_grammar.proofs.Forms.{Told, reads-one_of}
use Rattle.sql_grammar.proofs.Combining.{on, Countable, is, one, seen, seen_if, reads_counted, plainly}
use Rattle.sql_grammar.specs.Marks.{Fault, unknown_function, unsupported_type, class, is_path_name, is_unknown_call, is_number, text_in, number_in, Form, literal_text, literal_number, truth, untruth, null_form, missing_form, path_form, unknown_call, exponent_form, cast_form, group_form, case_form, coalesce_form, nullif_form, char_length_form, lower_form, upper_form, substring_form, trim_form, extract_form, date_add_form, to_timestamp_form, form_of}
use Rattle.sql_grammar.specs.Expressions.{Counting, Room, literal, primary_of, primary}
use Rattle.sql_grammar.specs.Readers.{Reader, begins, is_step, read_literal, read_primary_of, read_primary}
use Rattle.std.proofs.Common.{eqb-true}
use Rattle.sql_grammar.proofs.Sights.{or_sight, primary_sight}
use Rattle.sql_grammar.proofs.PartReads.{reads-path}
use Rattle.sql_grammar.proofs.PrimaryReads.{reads-simple_call, reads-cast, reads-group, reads-case, reads-coalesce, reads-nullif, reads-extract, reads-date_add}
use Rattle.sql_grammar.proofs.FactoredCalls.{reads-substring, reads-trim}

-- ---- forms by number

abbrev forms : List Form
forms = literal_text ∷ literal_number ∷ truth ∷ untruth ∷ null_form ∷ missing_form ∷ path_form ∷ unknown_call ∷ exponent_form ∷ cast_form ∷ group_form ∷ case_form ∷ coalesce_form ∷ nullif_form ∷ char_length_form ∷ lower_form ∷ upper_form ∷ substring_form ∷ trim_form ∷ extract_form ∷ date_add_form ∷ to_timestamp_form ∷ []

abbrev form_code : Form → ℕ
form_code literal_text = 0
form_code literal_number = 1
form_code truth = 2
form_code untruth = 3
form_code null_form = 4
form_code missing_form = 5
form_code path_form = 6
form_code unknown_call = 7
form_code exponent_form = 8
form_code cast_form = 9
form_code group_form = 10
form_code case_form = 11
form_code coalesce_form = 12
form_code nullif_form = 13
form_code char_length_form = 14
form_code lower_form = 15
form_code upper_form = 16
form_code substring_form = 17
form_code trim_form = 18
form_code extract_form = 19
form_code date_add_form = 20
form_code to_timestamp_form = 21

at_code : (f : Form) → slice_get forms (form_code f) ≡ Some f
at_code = elim [ literal_text ↦ refl | literal_number ↦ refl | truth ↦ refl | untruth ↦ refl | null_form ↦ refl | missing_form ↦ refl | path_form ↦ refl | unknown_call ↦ refl | exponent_form ↦ refl | cast_form ↦ refl | group_form ↦ refl | case_form ↦ refl | coalesce_form ↦ refl | nullif_form ↦ refl | char_length_form ↦ refl | lower_form ↦ refl | upper_form ↦ refl | substring_form ↦ refl | trim_form ↦ refl | extract_form ↦ refl | date_add_form ↦ refl | to_timestamp_form ↦ refl ]

abbrev is_coded : ℕ → Option Form → Bool
is_coded n None = false
is_coded n (Some f) = form_code f == n

coded : (f : Form) (o : Option Form) → is_coded (form_code f) o ≡ true → o ≡ Some f
coded f None h = cc
coded f (Some g) h =
    let n = eqb-true (form_code g) (form_code f) h in
    sym (at_code g) ∙ (ap (slice_get forms) n ∙ at_code f)

-- ---- how each form begins

abbrev form_first : Form → Class → Bool
form_first literal_text = is k.Text
form_first literal_number = is_number
form_first truth = is k.True
form_first untruth = is k.False
form_first null_form = is k.Null
form_first missing_form = is k.Missing
form_first path_form = is_path_name
form_first unknown_call = is_unknown_call
form_first exponent_form = is k.ExponentNumber
form_first cast_form = is k.Cast
form_first group_form = is k.LeftParenthesis
form_first case_form = is k.Case
form_first coalesce_form = is k.CoalesceCalled
form_first nullif_form = is k.NullifCalled
form_first char_length_form = is k.CharLengthCalled
form_first lower_form = is k.LowerCalled
form_first upper_form = is k.UpperCalled
form_first substring_form = is k.SubstringCalled
form_first trim_form = is k.TrimCalled
form_first extract_form = is k.ExtractCalled
form_first date_add_form = is k.DateAddCalled
form_first to_timestamp_form = is k.ToTimestampCalled

abbrev form_more : Form → Class → Bool
form_more path_form = is_step
form_more _ = λ c. false

abbrev form_sight : Form → Sight Class
form_sight f = seen (form_first f) (form_more f)

abbrev tells : Form → Class → Bool
tells f c = agree (form_first f c) (is_coded (form_code f) (form_of c))

told_all : (f : Form) → list_all (tells f) all_classes ≡ true
unfolding same_class
told_all = elim [ literal_text ↦ refl | literal_number ↦ refl | truth ↦ refl | untruth ↦ refl | null_form ↦ refl | missing_form ↦ refl | path_form ↦ refl | unknown_call ↦ refl | exponent_form ↦ refl | cast_form ↦ refl | group_form ↦ refl | case_form ↦ refl | coalesce_form ↦ refl | nullif_form ↦ refl | char_length_form ↦ refl | lower_form ↦ refl | upper_form ↦ refl | substring_form ↦ refl | trim_form ↦ refl | extract_form ↦ refl | date_add_form ↦ refl | to_timestamp_form ↦ refl ]

agree_there : (a b : Bool) → agree a b ≡ true → a ≡ true → b ≡ true
agree_there true b h q = h
agree_there false b h q = cc

agree_back : (a b : Bool) → agree a b ≡ true → b ≡ true → a ≡ true
agree_back true b h q = refl
agree_back false true h q = cc
agree_back false false h q = q

self_coded : (f : Form) → is_coded (form_code f) (Some f) ≡ true
self_coded = elim [ literal_text ↦ refl | literal_number ↦ refl | truth ↦ refl | untruth ↦ refl | null_form ↦ refl | missing_form ↦ refl | path_form ↦ refl | unknown_call ↦ refl | exponent_form ↦ refl | cast_form ↦ refl | group_form ↦ refl | case_form ↦ refl | coalesce_form ↦ refl | nullif_form ↦ refl | char_length_form ↦ refl | lower_form ↦ refl | upper_form ↦ refl | substring_form ↦ refl | trim_form ↦ refl | extract_form ↦ refl | date_add_form ↦ refl | to_timestamp_form ↦ refl ]

pub begun_by : (f : Form) (c : Class) → form_first f c ≡ true → form_of c ≡ Some f
begun_by f c h = coded f (form_of c) (agree_there (form_first f c) (is_coded (form_code f) (form_of c)) (every (tells f) (told_all f) c) h)

begins_so : (f : Form) (c : Class) → form_of c ≡ Some f → form_first f c ≡ true
begins_so f c h = agree_back (form_first f c) (is_coded (form_code f) (form_of c)) (every (tells f) (told_all f) c) (rw h (self_coded f))

goes_on : (f : Form) (c : Class) → form_more f c ≡ true → is_step c ≡ true
goes_on = elim [ literal_text ↦ λ c h. cc | literal_number ↦ λ c h. cc | truth ↦ λ c h. cc | untruth ↦ λ c h. cc | null_form ↦ λ c h. cc | missing_form ↦ λ c h. cc | path_form ↦ λ c h. h | unknown_call ↦ λ c h. cc | exponent_form ↦ λ c h. cc | cast_form ↦ λ c h. cc | group_form ↦ λ c h. cc | case_form ↦ λ c h. cc | coalesce_form ↦ λ c h. cc | nullif_form ↦ λ c h. cc | char_length_form ↦ λ c h. cc | lower_form ↦ λ c h. cc | upper_form ↦ λ c h. cc | substring_form ↦ λ c h. cc | trim_form ↦ λ c h. cc | extract_form ↦ λ c h. cc | date_add_form ↦ λ c h. cc | to_timestamp_form ↦ λ c h. cc ]

told : Told (λ f. on (form_sight f)) (λ s. form_of (class s)) (λ s. is_step (class s))
told = record {
  begins = λ f s h. begun_by f (class s) h;
  tells = λ f s h. begins_so f (class s) h;
  wants = λ f. refl;
  more = λ f s h. goes_on f (class s) h;
}

-- ---- primaries

reads-literal : (test : Class → Bool) (spelled : Symbol → Expr) → Countable (literal test spelled) (one test) (read_literal test spelled)
reads-literal test spelled = reads_counted (λ s. if test (class s) then takes (spelled s) else refuses) test (λ s. seen_if (test (class s)) (takes (spelled s)) refl)

reads-fault_form : (fault_of : Fault) (test : Class → Bool) → Countable (plain (fault fault_of (begins test))) (one test) (read_plain {A = Expr} (read_fault fault_of (begins test)))
reads-fault_form fault_of test = plainly (fault fault_of (begins test)) (one test) (read_fault fault_of (begins test)) (reads-fault Expr fault_of (begins test))

module _ (room : Room) (inner : Counting Expr) (read : Reader Expr) (g : Countable inner or_sight read) where
  reads-form : (f : Form) → Countable (primary_of room inner f) (form_sight f) (read_primary_of room read f)
  unfolding read_primary_of
  reads-form literal_text = reads-literal (same_class k.Text) (λ s. e.Text (text_in s.token))
  reads-form literal_number = reads-literal is_number (λ s. e.Number (number_in s.token))
  reads-form truth = reads-literal (same_class k.True) (λ s. e.Bool true)
  reads-form untruth = reads-literal (same_class k.False) (λ s. e.Bool false)
  reads-form null_form = reads-literal (same_class k.Null) (λ s. e.Null)
  reads-form missing_form = reads-literal (same_class k.Missing) (λ s. e.Missing)
  reads-form path_form = reads-path
  reads-form unknown_call = reads-fault_form unknown_function is_unknown_call
  reads-form exponent_form = reads-fault_form unsupported_type (is k.ExponentNumber)
  reads-form cast_form = reads-cast room inner read g
  reads-form group_form = reads-group room inner read g
  reads-form case_form = reads-case room inner read g
  reads-form coalesce_form = reads-coalesce room inner read g
  reads-form nullif_form = reads-nullif room inner read g
  reads-form char_length_form = reads-simple_call room inner read g k.CharLengthCalled e.CharLength
  reads-form lower_form = reads-simple_call room inner read g k.LowerCalled e.Lower
  reads-form upper_form = reads-simple_call room inner read g k.UpperCalled e.Upper
  reads-form substring_form = reads-substring room inner read g
  reads-form trim_form = reads-trim room inner read g
  reads-form extract_form = reads-extract room inner read g
  reads-form date_add_form = reads-date_add room inner read g
  reads-form to_timestamp_form = reads-simple_call room inner read g k.ToTimestampCalled e.ToTimestamp

  pub reads-primary : Countable (primary room inner) primary_sight (read_primary room read)
  unfolding primary read_primary
  reads-primary n =
      reads-one_of (λ f. primary_of room inner f n) (λ f. on (form_sight f)) (λ s. form_of (class s)) (λ s. is_step (class s)) (λ f. read_primary_of room read f n) told (λ f. reads-form f n)
