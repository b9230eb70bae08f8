-- Groups of the schema that are open, as a list whose innermost stands last.
use Rattle.std.proofs.Common.{◌≡◌, ◌<◌, ℕ, ◌-◌, true, false, nat_eq, nat_lt, bytes_eq, ◌&&◌, List, [], ◌∷◌, ◌++◌, length, refl, ap, sym, ◌∙◌, append_assoc, append-nil, arith}
use Rattle.std.proofs.lemmas.Bool.{lt-ltb, le-ltb, ne_eqb}
use Rattle.std.proofs.Math.Bool.{and-false, and-true}
use Rattle.parquet_metadata.specs.declared.chunk.ColumnChunk.{ColumnChunk}
use Rattle.parquet_metadata.specs.declared.element.SchemaElement.{SchemaElement}
use Rattle.parquet_footer.specs.declared.leaves.OpenGroup.{OpenGroup}
use Rattle.parquet_footer.specs.Groups.{same_path, are_leaves}
use Rattle.parquet_footer.specs.Walks.{Level, entered, path_of, leaves_by}
use Rattle.parquet_footer.specs.Open.{levels_of, names_of}

abbrev pub level : OpenGroup → Level
level g = record { name = g.name.now; due = g.due }

pub levels_with : (outer : List Level) (groups : List OpenGroup) (g : OpenGroup) → levels_of outer (groups ++ g ∷ []) ≡ level g ∷ levels_of outer groups
levels_with outer [] g = refl
levels_with outer (h ∷ groups) g = levels_with (level h ∷ outer) groups g

-- the innermost has a node to come, which is now open
pub entered_due : (groups all : List OpenGroup) (g : OpenGroup) → all ≡ groups ++ g ∷ [] → 0 < g.due → entered (levels_of [] all) ≡ record { name = g.name.now; due = g.due - 1 } ∷ levels_of [] groups
entered_due groups all g is some =
    let more : nat_lt 0 g.due ≡ true = lt-ltb 0 g.due some in
    ap (λ z. entered (levels_of [] z)) is ∙ ap entered (levels_with [] groups g) ∙ rw more refl

-- the innermost is whole
pub entered_whole : (groups all : List OpenGroup) (g : OpenGroup) → all ≡ groups ++ g ∷ [] → g.due ≡ 0 → entered (levels_of [] all) ≡ entered (levels_of [] groups)
entered_whole groups all g is none =
    let few : nat_lt 0 g.due ≡ false = le-ltb 0 g.due (omega arith) in
    ap (λ z. entered (levels_of [] z)) is ∙ ap entered (levels_with [] groups g) ∙ rw few refl

-- their names are the path
path_behind : (outer : List Level) (groups : List OpenGroup) → path_of (levels_of outer groups) ≡ path_of outer ++ names_of groups
path_behind outer [] = sym (append-nil (path_of outer))
path_behind outer (g ∷ groups) =
    path_behind (level g ∷ outer) groups ∙ append_assoc (path_of outer) (g.name.now ∷ []) (names_of groups)

pub path_levels : (groups : List OpenGroup) → path_of (levels_of [] groups) ≡ names_of groups
path_levels groups = path_behind [] groups

-- a path is one name
pub one_name : (a : List ℕ) (path : List (List ℕ)) (name : List ℕ) → (nat_eq (length path) 0 && bytes_eq a name) ≡ same_path (a ∷ path) (name ∷ [])
one_name a [] name = sym (and-true (bytes_eq a name))
one_name a (b ∷ path) name =
    let more : nat_eq (length (b ∷ path)) 0 ≡ false = ne_eqb _ _ (λ same. absurd (omega arith)) in
    rw more (sym (and-false (bytes_eq a name)))

pub no_name : (path : List (List ℕ)) (name : List ℕ) → length path ≡ 0 → false ≡ same_path path (name ∷ [])
no_name [] name h = refl
no_name (a ∷ path) name h = absurd (omega arith)

-- no chunk is left
no_leaves : (chunks : List ColumnChunk) → nat_eq (length chunks) 0 ≡ are_leaves chunks []
no_leaves [] = refl
no_leaves (c ∷ chunks) = ne_eqb _ _ (λ same. absurd (omega arith))

pub all_walked : (chunks : List ColumnChunk) (levels : List Level) (left : List SchemaElement) → length left < 1 → nat_eq (length chunks) 0 ≡ are_leaves chunks (leaves_by levels left)
all_walked chunks levels [] h = no_leaves chunks
all_walked chunks levels (e ∷ left) h = absurd (omega arith)
