pub mod Arithmetic
pub mod Casts
pub mod Compared
pub mod Numbers
pub mod Outcomes
pub mod Settled
