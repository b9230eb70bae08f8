pub mod Kept
pub mod Liked
