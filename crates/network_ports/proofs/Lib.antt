mod Places
mod Sending
mod Telling
