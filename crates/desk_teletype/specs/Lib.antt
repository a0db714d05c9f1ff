pub mod Sitting
pub mod Keys
pub mod Words
