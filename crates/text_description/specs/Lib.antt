pub mod Line
pub mod Description
pub mod Stored
pub mod Formed
