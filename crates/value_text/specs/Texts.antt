-- The text of a truth value.
use Rattle.std.specs.Prelude.{ℕ, Bool, true, false, List, codes}

-- the bytes of a truth value's text
abbrev pub bool_text : Bool → List ℕ
bool_text true = codes "true"
bool_text false = codes "false"
