pub mod Body
pub mod Cursor
pub mod Elements
pub mod Grammar
pub mod Pieces
pub mod Readers
pub mod TextValue
