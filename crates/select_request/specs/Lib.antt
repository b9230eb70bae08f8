pub mod Checks
pub mod Printable
pub mod Printed
pub mod Reading
pub mod Request
pub mod Values
