-- Conditions (S3 Select reference, operators and conditionals; SQL-92, section 8): AND, OR, NOT, comparison, BETWEEN, IN, LIKE, IS.
use Rattle.std.specs.Prelude.{Bool, true, false, not, List, [], ◌∷◌, Option, None, Some, Result, Ok, Err, if◌then◌else◌}
use Rattle.sql_timestamp.specs.declared.fault.ValueFault.{ValueFault}
use Rattle.sql_grammar.specs.declared.tree.CompareOp.{CompareOp}
use Rattle.sql_grammar.specs.declared.tree.CompareOp.TheVariants as compare
use Rattle.text_view.specs.declared.like.Part.{Part}
use Rattle.sql_value.specs.declared.value.Value.{Value}
use Rattle.sql_value.specs.declared.comparing.Order.{Order}
use Rattle.sql_value.specs.declared.comparing.Order.TheVariants as order
use Rattle.sql_value.specs.Outcomes.{Outcome}
use Rattle.sql_value.specs.Compared.{order_of}
use Rattle.sql_value.specs.Settled.{is_null_value, is_missing_value}
use Rattle.sql_functions.specs.Logic.{negated, is_equal}
use Rattle.sql_functions.specs.Texts.{like_truth}
use Rattle.sql_eval.specs.Evaluated.{Truth, and_then, settling}

-- true, and neither false nor unknown
abbrev pub is_true : Option Bool → Bool
is_true None = false
is_true (Some truth) = truth

-- whether a condition keeps a row
abbrev pub kept : Truth → Result Bool ValueFault
kept (Ok t) = Ok (is_true t)
kept (Err fault) = Err fault

-- ---- AND, OR, NOT

-- no member ended it
abbrev pub without_end : Bool → Bool → Option Bool
without_end stop true = None
without_end true false = Some false
without_end false false = Some true

-- a member of that truth ends the look for `stop`
abbrev pub ends : Bool → Bool → Bool
ends true truth = truth
ends false truth = not truth

abbrev pub until_truth : Bool → Option Bool → Truth → Truth → Truth
until_truth stop None unknown same = unknown
until_truth stop (Some truth) unknown same = if ends stop truth then Ok (Some stop) else same

-- A fault ends it, and so does the truth that is looked for; unknown is kept in mind.
abbrev pub until_step : Bool → Truth → Truth → Truth → Truth
until_step stop (Err fault) unknown same = Err fault
until_step stop (Ok t) unknown same = until_truth stop t unknown same

-- Members are judged from the left up to the first whose truth is `stop`; else it is unknown where one was unknown.
abbrev pub until : (Outcome → Truth) → Bool → Bool → List Outcome → Truth
until judge stop unknown [] = Ok (without_end stop unknown)
until judge stop unknown (o ∷ os) = until_step stop (judge o) (until judge stop true os) (until judge stop unknown os)

-- NOT negates, and unknown stays
abbrev pub negate_if : Bool → Option Bool → Option Bool
negate_if false t = t
negate_if true t = negated t

abbrev pub negated_if : Bool → Truth → Truth
negated_if negation (Ok t) = Ok (negate_if negation t)
negated_if negation (Err fault) = Err fault

-- ---- comparison

-- whether a comparison holds where the left operand is less, equal or greater
abbrev pub holds_less : CompareOp → Bool
holds_less compare.Equal = false
holds_less compare.NotEqual = true
holds_less compare.Less = true
holds_less compare.AtMost = true
holds_less compare.Greater = false
holds_less compare.AtLeast = false

abbrev pub holds_equal : CompareOp → Bool
holds_equal compare.Equal = true
holds_equal compare.NotEqual = false
holds_equal compare.Less = false
holds_equal compare.AtMost = true
holds_equal compare.Greater = false
holds_equal compare.AtLeast = true

abbrev pub holds_greater : CompareOp → Bool
holds_greater compare.Equal = false
holds_greater compare.NotEqual = true
holds_greater compare.Less = false
holds_greater compare.AtMost = false
holds_greater compare.Greater = true
holds_greater compare.AtLeast = true

-- the truth of a comparison, by the order of the operands
abbrev pub holds : CompareOp → Order → Option Bool
holds op order.Less = Some (holds_less op)
holds op order.Equal = Some (holds_equal op)
holds op order.Greater = Some (holds_greater op)
holds op order.Unknown = None

-- both operands are evaluated before they are compared
abbrev pub comparison : CompareOp → Outcome → Outcome → Truth
comparison op a b = and_then (settling a) (λ x. and_then (settling b) (λ y. Ok (holds op (order_of x y))))

-- two truths joined by AND
abbrev pub both_hold : Option Bool → Option Bool → Option Bool
both_hold (Some false) right = Some false
both_hold (Some true) right = right
both_hold None (Some false) = Some false
both_hold None (Some true) = None
both_hold None None = None

-- at least the low one and at most the high one
abbrev pub is_between : Value → Value → Value → Option Bool
is_between x low high = both_hold (holds compare.AtLeast (order_of x low)) (holds compare.AtMost (order_of x high))

-- BETWEEN evaluates three operands before it compares
abbrev pub between : Outcome → Outcome → Outcome → Truth
between a low high = and_then (settling a) (λ x. and_then (settling low) (λ l. and_then (settling high) (λ h. Ok (is_between x l h))))

-- a member equals the value
abbrev pub equals : Value → Outcome → Truth
equals x o = and_then (settling o) (λ y. Ok (is_equal (order_of x y)))

-- IN evaluates members from the left and ends at the first that equals the value
abbrev pub among : Outcome → List Outcome → Truth
among a members = and_then (settling a) (λ x. until (equals x) true false members)

-- ---- LIKE and IS

abbrev pub liked : Outcome → List Part → Truth
liked a pattern = and_then (settling a) (like_truth pattern)

-- IS looks at a value that isn't settled
abbrev pub is_null : Outcome → Truth
is_null a = and_then a (λ v. Ok (Some (is_null_value v)))

abbrev pub is_missing : Outcome → Truth
is_missing a = and_then a (λ v. Ok (Some (is_missing_value v)))
