use Rattle.std.proofs.Common.{◌≡◌, [], ◌∷◌, ◌++◌, length}
use Rattle.parquet_footer.specs.Groups.{same_path}
use Rattle.parquet_footer.specs.Open.{names_of}
use Rattle.parquet_footer.proofs.leaves.is_path.Given as goal

abbrev pub invariant-loop-groups : goal.invariant-loop-groups
invariant-loop-groups l =
    same_path l.path (names_of l.open ++ l.name ∷ []) ≡ same_path l.path_left (names_of l.groups ++ l.name ∷ [])

abbrev pub decreases-loop-groups : goal.decreases-loop-groups
decreases-loop-groups l = length l.groups
