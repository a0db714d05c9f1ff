pub mod OneRow
pub mod Acts
mod Effects
mod Sums
mod Planning
