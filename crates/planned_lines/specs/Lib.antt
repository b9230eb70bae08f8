pub mod KeptRows
pub mod LineYields
pub mod Turning
pub mod Copying
