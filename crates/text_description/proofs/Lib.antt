mod FirstWords
pub mod Texts
pub mod Formed
