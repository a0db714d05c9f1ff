pub mod Explanation
pub mod Answered
