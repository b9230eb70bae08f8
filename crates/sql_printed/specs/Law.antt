-- The law of printing.
use Rattle.std.specs.Prelude.{◌≡◌, ℕ, ◌≤◌, List, length, Result, Ok}
use Rattle.sql_grammar.specs.declared.tree.Query.{Query}
use Rattle.sql_grammar.specs.declared.error.SqlError.{SqlError}
use Rattle.sql_grammar.specs.Faults.{longest, Spells, Parses}
use Rattle.sql_printed.specs.Printed.{printed}

-- the text spells the query, where some text spells it and this one isn't too long
abbrev pub SpellsAgain : List ℕ → Query → Type 0
SpellsAgain text q = (first : List ℕ) → Spells first q → length text ≤ longest → Spells text q

-- and whatever the grammar says of the text is this very query
abbrev pub ReadsBack : List ℕ → Query → Type 0
ReadsBack text q = (first : List ℕ) → Spells first q → length text ≤ longest → (r : Result Query SqlError) → Parses text r → r ≡ Ok q

-- what is printed of a query spells that query
abbrev pub PrintedSpells : Type 0
PrintedSpells = (q : Query) → SpellsAgain (printed q) q

-- what is printed of a query is read as that query
abbrev pub PrintedReadsBack : Type 0
PrintedReadsBack = (q : Query) → ReadsBack (printed q) q
