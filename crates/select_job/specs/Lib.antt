pub mod Built
pub mod Codes
pub mod Jobs
pub mod Prepared
