pub mod Looks
pub mod Masks
pub mod Parts
pub mod Sights
pub mod Walks
