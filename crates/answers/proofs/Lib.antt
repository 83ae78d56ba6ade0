pub mod Lengths
pub mod Steps
pub mod Fresh
pub mod Openings
