pub mod Bears
pub mod Sound
pub mod WordLine
pub mod Images
