pub mod Devices
pub mod Session
pub mod Held
