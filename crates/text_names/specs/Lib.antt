pub mod Names
pub mod Dictionaries
