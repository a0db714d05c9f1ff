pub mod Operators
pub mod OperatorNames
