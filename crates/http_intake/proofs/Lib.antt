mod Digits
mod HeadRoom
mod Members
mod Names
mod Reading
