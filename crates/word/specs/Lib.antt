pub mod Choice
pub mod Word
