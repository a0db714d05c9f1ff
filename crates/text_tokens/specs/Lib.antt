pub mod Tokens
pub mod Signs
