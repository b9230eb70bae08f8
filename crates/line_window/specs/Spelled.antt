-- The bytes of a delimiter.
use Rattle.std.specs.Prelude.{ℕ, List, [], ◌∷◌}
use Rattle.line_window.specs.declared.delimiter.Delimiter.{Delimiter}
use Rattle.line_window.specs.declared.delimiter.Delimiter.TheVariants.{One, Two}

abbrev pub spelled : Delimiter → List ℕ
spelled (One byte) = byte ∷ []
spelled (Two first second) = first ∷ second ∷ []
