pub mod Scan
pub mod Accepted
pub mod Numbers
pub mod Reasons
