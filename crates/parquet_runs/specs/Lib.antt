pub mod Hybrid
pub mod Cursors
