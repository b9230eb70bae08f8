pub mod Answering
pub mod Undue
