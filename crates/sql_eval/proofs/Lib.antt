mod Gives
pub mod Walks
mod Stepping
mod Read
mod Texts
