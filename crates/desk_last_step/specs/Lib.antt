pub mod LastStep
pub mod Sizes
