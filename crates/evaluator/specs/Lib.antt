pub mod Padded
pub mod Evaluate
pub mod Lent
