pub mod Causes
pub mod Memory
pub mod Names
pub mod Real
pub mod Stored
pub mod Streams
pub mod Turns
