mod Lengths
mod Fronts
