pub mod Input
pub mod Pass
pub mod Read
pub mod Scan
