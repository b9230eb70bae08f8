pub mod Dates
pub mod Ranges
pub mod Moves
pub mod ReadSteps
pub mod Spelling
pub mod ReadBack
pub mod Printed
