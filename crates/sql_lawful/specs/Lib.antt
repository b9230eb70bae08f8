pub mod Depths
pub mod Lawful
pub mod Laws
