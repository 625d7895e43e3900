mod Ascending
mod Cuts
mod Ends
