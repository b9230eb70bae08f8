-- Sets of classes that the parser tests by their places.
use Rattle.std.proofs.Common.{◌≡◌, ◌||◌, Bool, true, false, refl, if◌then◌else◌}
use Rattle.std.specs.List.{list_all}
use Rattle.sql_tokens.specs.declared.class.Class.{Class}
use Rattle.sql_tokens.specs.declared.class.Class.TheVariants as k
use Rattle.sql_tokens.specs.Classes.{all_classes}
use Rattle.sql_tokens.proofs.ClassLaws.{every}
use Rattle.grammar_rules.proofs.Classes.{agree}
use Rattle.sql_grammar.specs.Marks.{begins_expression, simple_type}
use Rattle.sql_grammar.specs.Readers.{is_compare_op, begins_tail}
use Rattle.sql_grammar.proofs.ExpressionReads.{same_truth}
use Rattle.sql_leaves.specs.Parsing.{between, opens_expression, begins_word_tail, may_be_type, is_faulty}

-- tests that agree at each class are the same
pub agreeing : (f g : Class → Bool) → list_all (λ c. agree (f c) (g c)) all_classes ≡ true → (c : Class) → f c ≡ g c
agreeing f g h c = same_truth (f c) (g c) (every (λ d. agree (f d) (g d)) h c)

pub expression_between : (c : Class) → ((opens_expression c || between k.Text k.TimezoneMinuteCalled c) || between k.CoalesceCalled k.ToTimestampCalled c) ≡ begins_expression c
expression_between = agreeing (λ c. (opens_expression c || between k.Text k.TimezoneMinuteCalled c) || between k.CoalesceCalled k.ToTimestampCalled c) begins_expression refl

pub tail_begins : (c : Class) → (begins_word_tail c || is_compare_op c) ≡ begins_tail c
tail_begins = agreeing (λ c. begins_word_tail c || is_compare_op c) begins_tail refl

pub no_type_between : (c : Class) → (if may_be_type c then false else ((between k.Select k.Both c || between k.Name k.TimezoneMinuteCalled c) || between k.CoalesceCalled k.ToTimestampCalled c)) ≡ is_faulty (simple_type c)
no_type_between = agreeing (λ c. if may_be_type c then false else ((between k.Select k.Both c || between k.Name k.TimezoneMinuteCalled c) || between k.CoalesceCalled k.ToTimestampCalled c)) (λ c. is_faulty (simple_type c)) refl
