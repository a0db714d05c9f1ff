pub mod ByKind
pub mod Short
pub mod Octets
pub mod Examples
