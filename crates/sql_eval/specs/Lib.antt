pub mod Evaluated
pub mod Rows
pub mod Paths
pub mod Logic
pub mod Choices
pub mod Operations
pub mod Leaves
pub mod Meaning
