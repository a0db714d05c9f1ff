pub mod Address
pub mod Addressed
pub mod Reference
