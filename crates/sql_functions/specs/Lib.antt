pub mod Logic
pub mod Operands
pub mod Positions
pub mod Texts
pub mod Times
