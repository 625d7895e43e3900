mod Searching
mod Serving
mod Running
mod Watching
mod Bounding
