pub mod Value
pub mod Fitting
pub mod Words
