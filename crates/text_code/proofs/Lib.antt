pub mod Pieces
pub mod Parts
pub mod Formed
pub mod Making
