pub mod Codes
pub mod Varints
pub mod Items
pub mod Opens
pub mod Runs
pub mod States
pub mod Grammar
pub mod Trees
