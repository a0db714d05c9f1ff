pub mod Pass
pub mod Read
pub mod Digits
pub mod WordLine
pub mod Scanning
pub mod ByLines
pub mod Cut
pub mod Sound
