mod OneAnswer
mod OneServing
mod Progressing
mod Sending
mod Serving
mod Turning
mod Whole
