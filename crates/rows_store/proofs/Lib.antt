pub mod Powers
pub mod Remainders
pub mod Storing
pub mod Flips
mod Choices
