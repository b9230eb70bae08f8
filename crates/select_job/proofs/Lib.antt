pub mod Asking
pub mod OneAsked
