mod Cutting
mod Endings
mod Framing
mod Fronts
mod Growing
mod Processing
mod Steps
mod Tiles
