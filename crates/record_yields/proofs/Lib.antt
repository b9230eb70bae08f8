pub mod Numbers
pub mod OneValue
pub mod Selecting
pub mod Finals
pub mod Wholes
