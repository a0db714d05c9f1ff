pub mod Tree
pub mod Accepted
pub mod Places
mod Unnoted
mod Labels
mod Ends
mod Working
mod Bits
mod DeviceWords
pub mod Machines
mod Devices
mod Interrupts
mod References
mod Addresses
mod Skips
mod Operates
pub mod Cycles
pub mod Runs
