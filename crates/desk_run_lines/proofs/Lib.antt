pub mod RowTexts
pub mod Labels
pub mod RegisterLines
