pub mod Cells
pub mod Formats
pub mod Headers
pub mod Rows
pub mod Spelled
