pub mod WholeFields
pub mod Destinations
pub mod Formed
pub mod Fields
