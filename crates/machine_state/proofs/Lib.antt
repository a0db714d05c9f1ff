pub mod Lac
pub mod Keeps
pub mod Places
pub mod Served
