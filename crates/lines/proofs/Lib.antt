pub mod Cuts
pub mod Heads
pub mod Sorts
