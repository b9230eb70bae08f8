-- The checks by the elements below the root are those by the tree.
use Rattle.std.proofs.Common.{◌≡◌, ℕ, pos, Bool, true, false, not, ◌&&◌, nat_lt, is_some, if◌then◌else◌, List, [], ◌∷◌, length, Option, None, Some, Result, Ok, Err, IfOk, refl, ap, sym, ◌∙◌, subst, arith}
use Rattle.std.specs.List.{list_all}
use Rattle.std.proofs.lemmas.Bool.{and_parts, false≢true}
use Rattle.select_ports.specs.Stored.{Opened, IsOpen}
use Rattle.parquet_metadata.specs.Layout.{Tells, located}
use Rattle.thrift_compact.specs.declared.faults.ThriftFault.{ThriftFault}
use Rattle.thrift_compact.specs.Trees.{FieldList, AreFields}
use Rattle.parquet_metadata.specs.declared.element.SchemaElement.{SchemaElement}
use Rattle.parquet_metadata.specs.declared.file.PlacedMetadata.{PlacedMetadata}
use Rattle.parquet_metadata.specs.declared.faults.FooterError.{FooterError}
use Rattle.parquet_metadata.specs.declared.faults.FooterError.TheVariants.{Failed, OutOfMemory, NotParquet, FooterTooLarge, BadFooter, BadSchema, BadPlaces, GroupsOutOfOrder}
use Rattle.parquet_metadata.specs.Files.{IsTreeOf, HasFileTree, file_of, GivesFile}
use Rattle.parquet_footer.specs.declared.column.Column.{Column}
use Rattle.parquet_footer.specs.Schema.{Nodes, Leaf, node_count, is_whole, forest_of, schema_of, leaves_under, leaf_count, flat}
use Rattle.parquet_footer.specs.Groups.{is_placed}
use Rattle.parquet_footer.specs.Columns.{columns_of, groups_of}
use Rattle.parquet_footer.specs.Footers.{FooterView, are_in_order, by_schema, checked, footer_in, IsFooterOf, HasFooter, GivesFooter}
use Rattle.parquet_footer.specs.Walks.{is_forest, AreTrees, leaves_by, columns_by, leaf_number, walked}
use Rattle.parquet_footer.proofs.SchemaLaws.{IsRooted, rooted, schema_is}
use Rattle.parquet_footer.proofs.LeafLaws.{tree_leaves, tree_number}
use Rattle.parquet_footer.proofs.ColumnLaws.{tree_columns}

-- the elements below a root, where they are one tree with it
pub trees_below : (root : SchemaElement) (below : List SchemaElement) (t : Bool) → t ≡ is_some (schema_of (root ∷ below)) → t ≡ true → AreTrees below
trees_below root below t is yes_is =
    let all : (nat_lt 0 (node_count root.children) && (is_whole root && is_forest (node_count root.children) below)) ≡ true =
    schema_is root below ∙ sym is ∙ yes_is
    in
    record {
      number = node_count root.children;
      are = (and_parts (is_whole root) _ (and_parts (nat_lt 0 (node_count root.children)) _ all).1).1;
    }

same_below : (a b : SchemaElement) (xs ys : List SchemaElement) → a ∷ xs ≡ b ∷ ys → xs ≡ ys
same_below a b xs ys e = cc

-- the footer by the tree
same_checks : (size : ℕ) (file : PlacedMetadata) (nodes : Nodes) (leaves : List Leaf) (columns : List Column) (n : ℕ) → leaves ≡ leaves_under [] nodes → columns ≡ columns_of file.metadata.groups 0 nodes → n ≡ leaf_count nodes → by_schema size file.place file.metadata (Some nodes) ≡ (if not (list_all (is_placed file.place leaves) file.metadata.groups) then Err BadPlaces else if not (are_in_order file.metadata) then Err GroupsOutOfOrder else Ok (record { size = size; columns = columns; groups = groups_of columns file.metadata.orders n file.metadata.groups }))
same_checks size file nodes leaves columns n leaves_are columns_are n_is =
    rw (leaves_are, columns_are, n_is) refl

pub checked_is : (size : ℕ) (file : PlacedMetadata) (root : SchemaElement) (below : List SchemaElement) (t : Bool) → file.metadata.schema ≡ root ∷ below → t ≡ is_some (schema_of (root ∷ below)) → t ≡ true → checked size file ≡ walked size file below
unfolding checked
checked_is size file root below t elements_are is yes_is =
    ap (λ (es : List SchemaElement). by_schema size file.place file.metadata (schema_of es)) elements_are
    ∙ by_tree (schema_of (root ∷ below)) refl (sym is ∙ yes_is)
  where
    by_nodes : (nodes : Nodes) → IsRooted (root ∷ below) nodes → by_schema size file.place file.metadata (Some nodes) ≡ walked size file below
    by_nodes nodes r =
        let flat_is : below ≡ flat nodes = same_below root r.root below (flat nodes) r.elements_are in
        same_checks size file nodes (leaves_by [] below) (columns_by file.metadata.groups 0 0 below) (leaf_number below)
        (ap (leaves_by []) flat_is ∙ tree_leaves nodes r.counts.2)
        (ap (columns_by file.metadata.groups 0 0) flat_is ∙ tree_columns nodes file.metadata.groups 0 r.counts.2)
        (ap leaf_number flat_is ∙ tree_number nodes r.counts.2)

    by_tree : (s : Option Nodes) → schema_of (root ∷ below) ≡ s → is_some s ≡ true → by_schema size file.place file.metadata s ≡ walked size file below
    by_tree None e some = absurd (false≢true some)
    by_tree (Some nodes) e some = by_nodes nodes (rooted (root ∷ below) nodes e)

pub bad_schema : (size : ℕ) (file : PlacedMetadata) (root : SchemaElement) (below : List SchemaElement) (t : Bool) → file.metadata.schema ≡ root ∷ below → t ≡ is_some (schema_of (root ∷ below)) → t ≡ false → checked size file ≡ Err BadSchema
unfolding checked
bad_schema size file root below t elements_are is no_is =
    ap (λ (es : List SchemaElement). by_schema size file.place file.metadata (schema_of es)) elements_are
    ∙ by_tree (schema_of (root ∷ below)) (sym is ∙ no_is)
  where
    by_tree : (s : Option Nodes) → is_some s ≡ false → by_schema size file.place file.metadata s ≡ Err BadSchema
    by_tree None none = refl
    by_tree (Some nodes) none = absurd (cc)

pub no_schema : (size : ℕ) (file : PlacedMetadata) (elements : List SchemaElement) → file.metadata.schema ≡ elements → length elements ≡ 0 → checked size file ≡ Err BadSchema
unfolding checked schema_of forest_of
no_schema size file elements is none =
    ap (λ (es : List SchemaElement). by_schema size file.place file.metadata (schema_of es)) is
    ∙ by_list elements none
  where
    by_list : (es : List SchemaElement) → length es ≡ 0 → by_schema size file.place file.metadata (schema_of es) ≡ Err BadSchema
    by_list [] h = refl
    by_list (e ∷ es) h = absurd (omega arith)

pub gives_checked : (a b : Result FooterView FooterError) (r : Result FooterView FooterError) → a ≡ b → GivesFooter b r → GivesFooter a r
gives_checked a b r e = subst (λ (z : Result FooterView FooterError). GivesFooter z r) (sym e)

-- the footer of the file whose metadata was read
pub footer_is : (object : List ℕ) (fields : FieldList) (size : ℕ) (file : PlacedMetadata) → length object ≡ size → file_of object fields ≡ Ok file → footer_in object fields ≡ checked size file
unfolding footer_in
footer_is object fields size file len is = rw (is, len) refl

error_is : (object : List ℕ) (fields : FieldList) (e : FooterError) → file_of object fields ≡ Err e → footer_in object fields ≡ Err e
unfolding footer_in
error_is object fields e is = rw is refl

pub gives_error : (object : List ℕ) (fields : FieldList) (e : FooterError) → GivesFile (file_of object fields) (Err e) → GivesFooter (footer_in object fields) (Err e)
gives_error object fields Failed h = tt
gives_error object fields OutOfMemory h = tt
gives_error object fields NotParquet h = error_is object fields NotParquet h
gives_error object fields FooterTooLarge h = error_is object fields FooterTooLarge h
gives_error object fields (BadFooter at) h = error_is object fields (BadFooter at) h
gives_error object fields BadSchema h = error_is object fields BadSchema h
gives_error object fields BadPlaces h = error_is object fields BadPlaces h
gives_error object fields GroupsOutOfOrder h = error_is object fields GroupsOutOfOrder h

-- an open object that is told has its size
pub told_size : (opened : Opened) (object : List ℕ) (size : ℕ) → IsOpen opened size → Tells opened object → length object ≡ size
told_size opened object size is tells =
    let P : Opened → Type 0 = λ o. IsOpen o size in
    (subst P tells is).0

-- ---- one footer

abbrev pub TreesAreOne : Type 0
TreesAreOne =
    (bytes : List ℕ) (fields others : FieldList) (a b : Result ℕ ThriftFault) → AreFields bytes 1 (pos 0) 0 fields a → AreFields bytes 1 (pos 0) 0 others b → fields ≡ others

unlocated : (object : List ℕ) (e : FooterError) (fields : FieldList) → located object ≡ Err e → footer_in object fields ≡ Err e
unfolding footer_in
unlocated object e fields is = rw is refl

pub one_footer : TreesAreOne → (object : List ℕ) (fields others : FieldList) → IsTreeOf (located object) fields → IsTreeOf (located object) others → footer_in object fields ≡ footer_in object others
one_footer one object fields others f o = by_bytes (located object) refl f o
  where
    by_bytes : (r : Result (List ℕ) FooterError) → located object ≡ r → IsTreeOf r fields → IsTreeOf r others → footer_in object fields ≡ footer_in object others
    by_bytes (Ok bytes) is f o = ap (footer_in object) (one bytes fields others f.0 o.0 f.1 o.1)
    by_bytes (Err e) is f o = unlocated object e fields is ∙ sym (unlocated object e others is)

pub one_outcome : TreesAreOne → (object : List ℕ) (footer other : Result FooterView FooterError) → IsFooterOf object footer → IsFooterOf object other → footer ≡ other
one_outcome one object footer other f o =
    sym f.is ∙ one_footer one object f.fields o.fields f.tree o.tree ∙ o.is

pub has_footer : (object : List ℕ) → HasFileTree object → HasFooter object
has_footer object t = record {
  footer = footer_in object t.fields;
  is = record { fields = t.fields; tree = t.is; is = refl };
}

-- what was read stands for the file
pub stands_for : (object : List ℕ) (r : Result FooterView FooterError) → HasFileTree object → ((fields : FieldList) → IsTreeOf (located object) fields → GivesFooter (footer_in object fields) r) → IfOk r (λ footer. IsFooterOf object (Ok footer))
stands_for object (Ok footer) t gives = record { fields = t.fields; tree = t.is; is = gives t.fields t.is }
stands_for object (Err e) t gives = tt
