pub mod Variant
pub mod Text
pub mod Shipped
