pub mod Calls
pub mod Scripted
pub mod Sent
pub mod Told
pub mod Real
