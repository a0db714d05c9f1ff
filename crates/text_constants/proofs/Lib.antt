pub mod Digits
pub mod Shortest
pub mod Readings
pub mod Taken
pub mod Numerals
pub mod Places
pub mod Widths
pub mod Worked
