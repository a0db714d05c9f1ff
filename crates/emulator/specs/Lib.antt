pub mod Emulate
