pub mod Always
pub mod Closed
pub mod Expressions
pub mod LawfulForms
pub mod DepthForms
pub mod Queries
