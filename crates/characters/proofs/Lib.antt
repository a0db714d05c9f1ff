pub mod Runs
pub mod Searches
pub mod Strings
