pub mod Exchange
pub mod Sizes
