pub mod State
pub mod Processor
pub mod Registers
pub mod Instruction
pub mod Interrupt
