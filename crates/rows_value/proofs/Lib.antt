pub mod Widths
pub mod Standing
pub mod Compiled
mod Words
mod Cases
