pub mod Changes
pub mod Masks
pub mod Rotated
pub mod Reversed
pub mod Skipped
pub mod Keeps
pub mod Halts
