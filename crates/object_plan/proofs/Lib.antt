pub mod FirstLine
pub mod Headers
