pub mod Calls
pub mod Checksums
pub mod Orders
