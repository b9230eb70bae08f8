pub mod Adding
pub mod Codes
pub mod Names
pub mod Projections
pub mod Totals
pub mod Whole
pub mod Yields
