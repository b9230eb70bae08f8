pub mod Numbers
pub mod Blocks
pub mod Lists
pub mod Arrays
pub mod Spelling
pub mod ArraySpelling
