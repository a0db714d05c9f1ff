pub mod Instructions
pub mod Console
pub mod Rounds
pub mod Ran
pub mod Marked
