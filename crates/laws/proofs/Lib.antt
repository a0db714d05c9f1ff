pub mod Joined
pub mod Lists
pub mod Tests
