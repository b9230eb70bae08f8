pub mod Answered
pub mod Chosen
pub mod Due
pub mod Early
pub mod Jobs
