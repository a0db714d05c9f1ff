pub mod Mnemonics
pub mod Sizes
