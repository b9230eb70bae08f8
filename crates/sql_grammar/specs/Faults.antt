-- What the grammar says of a text: its query, or its first fault and the place of the fault in bytes.
use Rattle.std.specs.Prelude.{◌≡◌, ℕ, ◌<◌, ◌≤◌, Bool, true, false, ◌&&◌, List, length, drop, Option, Some, None, Result, Ok, Err, if◌then◌else◌, bytes_eq, codes}
use Rattle.std.specs.Str.{str_eq_ignore_ascii_case}
use Rattle.sql_tokens.specs.Cutting.{Symbol, symbols_of, lexer_fault, place_or}
use Rattle.sql_grammar.specs.declared.tree.Name.{Name}
use Rattle.sql_grammar.specs.declared.tree.Selection.{Selection}
use Rattle.sql_grammar.specs.declared.tree.Selection.TheVariants as selection
use Rattle.sql_grammar.specs.declared.tree.Query.{Query}
use Rattle.sql_grammar.specs.declared.error.SqlCode.{SqlCode}
use Rattle.sql_grammar.specs.declared.error.SqlCode.TheVariants as code
use Rattle.sql_grammar.specs.declared.error.SqlError.{SqlError}
use Rattle.grammar_rules.specs.Places.{value, refusal, AnswersNamed}
use Rattle.sql_grammar.specs.Marks.{Fault, unknown_function, aggregate_mixed, unsupported_type, bad_escape, wrong_number, too_deep, too_many, class, is_aggregate}
use Rattle.sql_grammar.specs.Queries.{Selected, everything, everything_of, selected, Written, query}

-- ---- the name before `.*`

-- both are quoted and equal, or one is unquoted and they are equal in any ASCII case
abbrev pub is_same_name : Name → Name → Bool
is_same_name a b = if a.quoted && b.quoted then bytes_eq a.text b.text else str_eq_ignore_ascii_case a.text b.text

-- the source's name: its alias, or S3Object without quotes
abbrev pub source_name : Option Name → Name
source_name None = record { text = codes "S3Object"; quoted = false }
source_name (Some alias) = alias

abbrev pub is_own_name : Selected → Name → Bool
is_own_name everything own = true
is_own_name (everything_of a) own = is_same_name a own
is_own_name (selected items) own = true

-- the name before `.*` is the source's
abbrev pub names_source : Written → Bool
names_source w = is_own_name w.list (source_name w.alias)

-- ---- queries

abbrev pub selection_of : Selected → Selection
selection_of everything = selection.All
selection_of (everything_of a) = selection.All
selection_of (selected items) = items

abbrev pub query_of : Written → Query
query_of w = record { items = selection_of w.list; alias = w.alias; source = w.steps; filter = w.filter; limit = w.limit }

-- ---- faults

-- an aggregate's name before `(` where it is refused
abbrev pub misplaced : Symbol → Option Fault
misplaced s = if is_aggregate (class s) then Some aggregate_mixed else None

abbrev pub code_of : Option Fault → SqlCode
code_of None = code.Syntax
code_of (Some unknown_function) = code.UnknownFunction
code_of (Some aggregate_mixed) = code.AggregateMixed
code_of (Some unsupported_type) = code.UnsupportedType
code_of (Some bad_escape) = code.BadEscape
code_of (Some wrong_number) = code.Syntax
code_of (Some too_deep) = code.TooDeep
code_of (Some too_many) = code.TooMany

-- the longest text, in bytes
abbrev pub longest : ℕ
longest = 262144

-- the place of the token of this number, or the text's length
abbrev pub place_of : List ℕ → ℕ → ℕ
place_of text n = place_or (length text) (drop n (symbols_of text))

-- ---- what a text is

-- the text has at most 262,144 bytes and is cut into tokens
pub record IsCut (text : List ℕ) : Type 0 where
  pub short : length text ≤ longest
  pub tokens : lexer_fault text ≡ None

-- the text is so written
pub record IsWritten (text : List ℕ) (w : Written) : Type 0 where
  pub cut : IsCut text
  pub spelled : AnswersNamed misplaced query (symbols_of text) (value w)

-- the text spells the query
pub record Spells (text : List ℕ) (q : Query) : Type 0 where
  pub as_written : Written
  pub written : IsWritten text as_written
  pub own : names_source as_written ≡ true
  pub is : query_of as_written ≡ q

-- the text's fault, in the order in which they are looked for: it is too long; a place at which no token stands; the first token
-- with a fault, or the text's end; and a name before `.*` that isn't the source's, which is the second token
pub data FaultOf (text : List ℕ) (error : SqlError) : Type 0 where
  is_too_long : longest < length text → error ≡ record { code = code.TooLong; at = longest } → FaultOf text error
  is_unfit : (at : ℕ) → length text ≤ longest → lexer_fault text ≡ Some at → error ≡ record { code = code.Lexer; at = at } → FaultOf text error
  is_refused : (fault : Option Fault) (n : ℕ) → IsCut text → AnswersNamed misplaced query (symbols_of text) (refusal fault n) → error ≡ record { code = code_of fault; at = place_of text n } → FaultOf text error
  is_other_name : (w : Written) → IsWritten text w → names_source w ≡ false → error ≡ record { code = code.Syntax; at = place_of text 1 } → FaultOf text error

-- the text is this query, or has this first fault
abbrev pub Parses : List ℕ → Result Query SqlError → Type 0
Parses text (Ok q) = Spells text q
Parses text (Err error) = FaultOf text error

-- each text is a query or has a fault
abbrev pub EachParses : Type 0
EachParses = (text : List ℕ) → (r : Result Query SqlError) × Parses text r

-- and it is one query or has one fault
abbrev pub OneParse : Type 0
OneParse = (text : List ℕ) (r s : Result Query SqlError) → Parses text r → Parses text s → r ≡ s
