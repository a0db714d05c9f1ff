pub mod Input
pub mod Scan
