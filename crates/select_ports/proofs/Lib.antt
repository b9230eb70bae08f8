pub mod Firsts
pub mod Segments
pub mod Told
