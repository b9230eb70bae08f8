-- A query as the parser holds it, seen as it is written.
use Rattle.std.specs.Prelude.{◌≡◌, ◌≢◌, ℕ, Bool, true, ◌&&◌, not, is_some, List, [], length, drop, if◌then◌else◌, Option, Some, None, Result, Ok, Err}
use Rattle.sql_tokens.specs.Cutting.{Symbol, first_class, place_or}
use Rattle.sql_tokens.specs.declared.class.Class.TheVariants as k
use Rattle.sql_tokens.specs.Classes.{same_class}
use Rattle.sql_tokens.specs.Payloads.{first_of, word_of}
use Rattle.grammar_rules.specs.Readers.{Outcome, found, failed}
use Rattle.sql_grammar.specs.declared.tree.Name.{Name}
use Rattle.sql_grammar.specs.declared.tree.Selection.TheVariants as selection
use Rattle.sql_grammar.specs.Marks.{Fault}
use Rattle.sql_grammar.specs.Queries.{Selected, everything, everything_of, selected, Written}
use Rattle.sql_grammar.specs.QueryReaders.{is_agg, read_all_of_name}
use Rattle.sql_grammar.specs.declared.error.SqlCode.{SqlCode}
use Rattle.sql_grammar.specs.declared.error.SqlCode.TheVariants as code
use Rattle.sql_grammar.specs.declared.error.ParseError.{ParseError}
use Rattle.sql_grammar.specs.declared.error.ParseError.TheVariants as error
use Rattle.sql_leaves.specs.declared.stop.Stop.{Stop}
use Rattle.sql_leaves.specs.declared.stop.Stop.TheVariants as stop
use Rattle.select_sql.specs.declared.query.Listed.{Listed}
use Rattle.select_sql.specs.declared.query.Listed.TheVariants as list
use Rattle.select_sql.specs.declared.query.Parts.{Parts}
use Rattle.sql_leaves.specs.Parsing.{fault_of}

abbrev pub listed : Listed → Selected
listed list.Everything = everything
listed (list.EverythingOf a) = everything_of a
listed (list.Rows items) = selected (selection.Rows items)
listed (list.Totals totals) = selected (selection.Totals totals)

abbrev pub written : Parts → Written
written p = record { list = listed p.list; steps = p.steps; alias = p.alias; filter = p.filter; limit = p.limit }

-- the result, seen as this value, is that outcome, with the count and what is left, but for want of memory
abbrev pub GivesAs : {S A B : Type 0} → (B → A) → Outcome Symbol Fault (A × S) → Result B Stop → S → List Symbol → Type 0
GivesAs seen outcome (Ok b) n left = outcome ≡ found (seen b, n) left
GivesAs seen outcome (Err e) n left = e ≢ stop.Memory → outcome ≡ failed (fault_of e) left

abbrev pub IsFailed : {A : Type 0} → Outcome Symbol Fault A → Type 0
IsFailed (found a left) = ⊥
IsFailed (failed e left) = Unit {0}

-- the name of all in front, with the dot and the star behind it; or there is none
abbrev pub AllOfName : List Symbol → Option Name → Type 0
AllOfName ts (Some a) = read_all_of_name ts ≡ found a (drop 1 (drop 1 (drop 1 ts)))
AllOfName ts None = IsFailed (read_all_of_name ts)

-- ---- errors

-- no token is in sight: none has a class, and none is a word
abbrev pub at_end : List Symbol → Bool
at_end ts = same_class k.NoToken (first_class ts) && not (is_some (first_of word_of ts))

-- where none is in sight, none is left
abbrev pub NoneIsEnd : List Symbol → Type 0
NoneIsEnd ts = at_end ts ≡ true → ts ≡ []

-- the code of a token that is refused
abbrev pub refused_code : List Symbol → SqlCode
refused_code ts = if is_agg (first_class ts) then code.AggregateMixed else code.Syntax

-- the code of a stop where these tokens are left, but for want of memory
abbrev pub stop_code : Stop → List Symbol → Option SqlCode
stop_code stop.Refused left = Some (refused_code left)
stop_code stop.UnknownFunction left = Some code.UnknownFunction
stop_code stop.AggregateMixed left = Some code.AggregateMixed
stop_code stop.UnsupportedType left = Some code.UnsupportedType
stop_code stop.BadEscape left = Some code.BadEscape
stop_code stop.WrongNumber left = Some code.Syntax
stop_code stop.TooDeep left = Some code.TooDeep
stop_code stop.TooMany left = Some code.TooMany
stop_code stop.Memory left = None

abbrev pub error_by : List ℕ → Option SqlCode → List Symbol → ParseError
error_by text None left = error.OutOfMemory
error_by text (Some c) left = error.Refused (record { code = c; at = place_or (length text) left })

-- the error that a stop is
abbrev pub error_of : List ℕ → Stop → List Symbol → ParseError
error_of text s left = error_by text (stop_code s left) left
