pub mod Listing
pub mod Scanned
pub mod Stepped
