-- The laws of what a text spells.
use Rattle.std.specs.Prelude.{ℕ, List}
use Rattle.sql_grammar.specs.declared.tree.Query.{Query}
use Rattle.sql_grammar.specs.Faults.{Spells}
use Rattle.sql_lawful.specs.Lawful.{IsLawful}
use Rattle.sql_lawful.specs.Depths.{IsShallow}

-- each query that a text spells is lawful
abbrev pub EachSpelledIsLawful : Type 0
EachSpelledIsLawful = (text : List ℕ) (q : Query) → Spells text q → IsLawful q

-- and has no expression that is deeper than 520 nodes
abbrev pub EachSpelledIsShallow : Type 0
EachSpelledIsShallow = (text : List ℕ) (q : Query) → Spells text q → IsShallow q
