pub mod Tree
pub mod Kinds
pub mod Code
pub mod Readings
pub mod Formed
pub mod Met
pub mod RowTable
