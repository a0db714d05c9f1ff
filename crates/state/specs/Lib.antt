pub mod Limits
pub mod Refusals
pub mod Checks
pub mod Acceptable
