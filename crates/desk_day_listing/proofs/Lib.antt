pub mod ByText
pub mod Sizes
pub mod Rest
pub mod Day
