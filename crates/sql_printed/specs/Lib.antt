pub mod Law
pub mod Printed
pub mod Shown
