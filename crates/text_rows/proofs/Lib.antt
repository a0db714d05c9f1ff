pub mod Tables
pub mod RowLines
mod Assignments
