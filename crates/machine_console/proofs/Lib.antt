pub mod Request
pub mod Keeps
pub mod Quiet
pub mod Turned
mod Words
mod Works
mod Kept
pub mod Marked
