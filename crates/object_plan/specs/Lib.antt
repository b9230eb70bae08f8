pub mod Codes
pub mod Columns
pub mod Planning
pub mod Stops
