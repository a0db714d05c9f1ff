pub mod Step
pub mod Base
pub mod Run
pub mod Marked
pub mod Stretch
