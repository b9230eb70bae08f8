pub mod Parsing
pub mod Written
