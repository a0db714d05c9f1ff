pub mod Choice
pub mod Complement
pub mod Next
pub mod Parts
pub mod Rotation
