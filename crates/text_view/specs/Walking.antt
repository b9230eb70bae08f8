-- A text that is walked by runs.
use Rattle.std.specs.Prelude.{ℕ, List, [], ◌∷◌}
use Rattle.std.specs.Str.{chars}
use Rattle.text_view.specs.declared.pieces.Run.{Run}
use Rattle.text_view.specs.declared.pieces.Run.TheVariants.{Slice, Character}

-- the characters of a run
abbrev pub run_chars : Run → List ℕ
run_chars (Slice text) = chars text.now
run_chars (Character c) = c ∷ []
