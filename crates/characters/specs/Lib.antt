pub mod Ascii
pub mod Characters
pub mod Named
pub mod Table
