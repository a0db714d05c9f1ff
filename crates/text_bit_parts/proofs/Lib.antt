pub mod Listed
pub mod Onward
pub mod Refers
