pub mod Bodies
pub mod Coming
pub mod Fields
pub mod Heads
pub mod Naming
pub mod Targets
pub mod Table
