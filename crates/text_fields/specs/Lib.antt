pub mod Fields
pub mod Rests
pub mod Steps
