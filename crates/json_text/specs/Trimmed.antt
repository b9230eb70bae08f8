-- Bytes without the blanks around them.
use Rattle.std.specs.Prelude.{ℕ, List, [], ◌∷◌, if◌then◌else◌}
use Rattle.json_text.specs.Grammar.{is_blank}

-- without the blanks at the end
abbrev pub glue : ℕ → List ℕ → List ℕ
glue c [] = if is_blank c then [] else c ∷ []
glue c (d ∷ ds) = c ∷ d ∷ ds

abbrev pub content : List ℕ → List ℕ
content [] = []
content (c ∷ cs) = glue c (content cs)

-- without the blanks in front
abbrev pub skip_blanks : List ℕ → List ℕ
skip_blanks [] = []
skip_blanks (c ∷ cs) = if is_blank c then skip_blanks cs else c ∷ cs
