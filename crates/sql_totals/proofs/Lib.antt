mod Adding
mod ExactSums
mod Merges
mod OfRows
mod OfValues
mod Ordered
mod Written
