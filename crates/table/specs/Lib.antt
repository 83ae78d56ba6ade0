pub mod Rows
pub mod Convert
pub mod Text
pub mod Lent
pub mod Binary
pub mod Held
pub mod Opening
pub mod Opened
