pub mod Starts
pub mod Held
pub mod Split
pub mod Sessions
pub mod Prints
