mod Digits
mod Sending
mod Sizes
