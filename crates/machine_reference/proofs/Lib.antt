pub mod Addresses
pub mod Keeps
pub mod Ops
pub mod Refers
pub mod Skips
