-- A choice of many forms that begin apart, and its reader.
use Rattle.std.specs.Prelude.{List, [], ◌∷◌, Option, Some, None}
use Rattle.grammar_rules.specs.Readers.{Outcome, failed}

-- the outcome of the form that the first symbol begins
abbrev pub read_form : {T K A I : Type 0} → (I → List T → Outcome T K A) → Option I → List T → Outcome T K A
read_form read None ts = failed None ts
read_form read (Some i) ts = read i ts

abbrev pub read_one_of : {T K A I : Type 0} → (T → Option I) → (I → List T → Outcome T K A) → List T → Outcome T K A
read_one_of which read [] = failed None []
read_one_of which read (t ∷ ts) = read_form read (which t) (t ∷ ts)
