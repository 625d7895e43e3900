mod Appending
mod Hearing
