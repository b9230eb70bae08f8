-- The schema's elements as they are walked from the front, without their tree. Each of these says the same of a
-- schema's elements as its tree does.
use Rattle.std.specs.Prelude.{◌≡◌, ℕ, ◌+◌, ◌-◌, nat_eq, nat_lt, Bool, true, false, not, ◌&&◌, if◌then◌else◌, List, [], ◌∷◌, ◌++◌, Result, Ok, Err}
use Rattle.std.specs.List.{list_all}
use Rattle.parquet_metadata.specs.declared.element.SchemaElement.{SchemaElement}
use Rattle.parquet_metadata.specs.declared.group.RowGroup.{RowGroup}
use Rattle.parquet_metadata.specs.declared.metadata.FileMetaData.{FileMetaData}
use Rattle.parquet_metadata.specs.declared.file.PlacedMetadata.{PlacedMetadata}
use Rattle.parquet_metadata.specs.declared.faults.FooterError.{FooterError}
use Rattle.parquet_metadata.specs.declared.faults.FooterError.TheVariants.{BadPlaces, GroupsOutOfOrder}
use Rattle.parquet_footer.specs.declared.column.Column.{Column}
use Rattle.parquet_footer.specs.Schema.{Leaf, node_count, is_group, is_whole}
use Rattle.parquet_footer.specs.Columns.{leaf_column, group_column, groups_of}
use Rattle.parquet_footer.specs.Groups.{is_placed}
use Rattle.parquet_footer.specs.Footers.{FooterView, are_in_order}

-- the elements are so many trees: each element is one that is due, and its children become due
abbrev pub is_forest : ℕ → List SchemaElement → Bool
is_forest due [] = nat_eq due 0
is_forest due (e ∷ elements) =
    nat_lt 0 due && (is_whole e && is_forest (due - 1 + node_count e.children) elements)

pub record AreTrees (elements : List SchemaElement) : Type 0 where
  pub number : ℕ
  pub are : is_forest number elements ≡ true

-- how many leaves there are
abbrev pub leaf_one : SchemaElement → ℕ
leaf_one e = if is_group e then 0 else 1

abbrev pub leaf_number : List SchemaElement → ℕ
leaf_number [] = 0
leaf_number (e ∷ elements) = leaf_one e + leaf_number elements

-- the columns, behind so many leaves, where so many nodes below the last column are due
abbrev pub column_at : List RowGroup → ℕ → SchemaElement → Column
column_at groups before e = if is_group e then group_column e else leaf_column groups before e

abbrev pub column_before : Bool → Column → List Column → List Column
column_before true column columns = column ∷ columns
column_before false column columns = columns

abbrev pub columns_by : List RowGroup → ℕ → ℕ → List SchemaElement → List Column
columns_by groups before due [] = []
columns_by groups before due (e ∷ elements) =
    column_before (nat_eq due 0) (column_at groups before e)
    (columns_by groups (before + leaf_one e) (due - 1 + node_count e.children) elements)

-- a group that is open, and how many of its nodes are still to come
pub record Level : Type 0 where
  pub name : List ℕ
  pub due : ℕ

-- the names of the open groups, of which the innermost stands first
abbrev pub path_of : List Level → List (List ℕ)
path_of [] = []
path_of (l ∷ levels) = path_of levels ++ l.name ∷ []

-- one node more of the innermost open group that isn't whole
abbrev pub entered : List Level → List Level
entered [] = []
entered (l ∷ levels) =
    if nat_lt 0 l.due then record { name = l.name; due = l.due - 1 } ∷ levels else entered levels

-- the leaves, inside these open groups
abbrev pub leaves_by : List Level → List SchemaElement → List Leaf
leaves_by levels [] = []
leaves_by levels (e ∷ elements) =
    if is_group e then
    leaves_by (record { name = e.name; due = node_count e.children } ∷ entered levels) elements
    else
    record { path = path_of (entered levels) ++ e.name ∷ []; element = e }
    ∷ leaves_by (entered levels) elements

-- the footer, by the elements below the root
abbrev pub walked_footer : ℕ → List SchemaElement → FileMetaData → FooterView
walked_footer size below m =
    let columns = columns_by m.groups 0 0 below in
    record { size = size; columns = columns; groups = groups_of columns m.orders (leaf_number below) m.groups }

-- the checks of a schema's groups, and the footer, by the elements below the root
abbrev pub walked : ℕ → PlacedMetadata → List SchemaElement → Result FooterView FooterError
walked size file below =
    if not (list_all (is_placed file.place (leaves_by [] below)) file.metadata.groups) then Err BadPlaces
    else if not (are_in_order file.metadata) then Err GroupsOutOfOrder
    else Ok (walked_footer size below file.metadata)
