pub mod Messages
pub mod Answers
pub mod Exchanges
pub mod Endings
pub mod OneServing
pub mod Turns
