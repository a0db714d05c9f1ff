pub mod Fields
mod Declarations
