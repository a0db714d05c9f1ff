pub mod Octets
pub mod Lines
pub mod Sizes
