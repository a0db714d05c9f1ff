pub mod Starts
pub mod Agree
pub mod Unrefused
pub mod Instances
