pub mod ByteLaws
pub mod SchemaLaws
pub mod OpenLaws
pub mod LeafLaws
pub mod ColumnLaws
pub mod SoundLaws
pub mod CheckLaws
pub mod TreeLaws
