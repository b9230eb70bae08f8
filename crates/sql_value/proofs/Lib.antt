pub mod Checked
pub mod Nodes
pub mod Orders
pub mod Words
