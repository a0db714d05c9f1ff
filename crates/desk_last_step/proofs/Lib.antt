pub mod Changes
pub mod Few
