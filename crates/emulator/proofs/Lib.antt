pub mod Starts
mod Ends
pub mod TwoCalls
