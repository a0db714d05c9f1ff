pub mod Refers
pub mod References
