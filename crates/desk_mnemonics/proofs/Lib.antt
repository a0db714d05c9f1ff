pub mod Names
pub mod Handbook
