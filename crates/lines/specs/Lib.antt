pub mod Pieces
pub mod Fields
pub mod Forms
pub mod Reads
pub mod Points
pub mod Letters
pub mod Requests
pub mod Headings
