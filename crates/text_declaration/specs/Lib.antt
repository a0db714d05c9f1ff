pub mod Faults
pub mod Rows
pub mod Lines
pub mod Stored
