pub mod Fields
pub mod Expression
pub mod Met
