pub mod Starts
pub mod LastStep
pub mod Answers
pub mod Sizes
pub mod ByText
pub mod Day
pub mod LastLine
