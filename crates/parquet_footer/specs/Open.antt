-- The groups of a schema that are open, as the code keeps them: the innermost stands last.
use Rattle.std.specs.Prelude.{ℕ, List, [], ◌∷◌}
use Rattle.parquet_footer.specs.declared.leaves.OpenGroup.{OpenGroup}
use Rattle.parquet_footer.specs.Walks.{Level}

-- the levels, before those of groups further out
abbrev pub levels_of : List Level → List OpenGroup → List Level
levels_of outer [] = outer
levels_of outer (g ∷ groups) = levels_of (record { name = g.name.now; due = g.due } ∷ outer) groups

abbrev pub names_of : List OpenGroup → List (List ℕ)
names_of [] = []
names_of (g ∷ groups) = g.name.now ∷ names_of groups
