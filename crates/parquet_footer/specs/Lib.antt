pub mod Numbers
pub mod Schema
pub mod Groups
pub mod Columns
pub mod Footers
pub mod FooterSound
pub mod Walks
pub mod Open
