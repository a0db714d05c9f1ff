pub mod Constants
pub mod Numerals
pub mod Sizes
pub mod Worked
