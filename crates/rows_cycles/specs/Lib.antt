pub mod Cycle
pub mod Rising
pub mod Run
pub mod Devices
pub mod Stored
