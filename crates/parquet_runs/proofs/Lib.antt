mod Bits
mod Sizes
mod Turns
mod Counts
