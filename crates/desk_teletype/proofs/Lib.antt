pub mod Turns
pub mod Accepted
