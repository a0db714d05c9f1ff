pub mod Shifts
pub mod Operation
pub mod Stored
