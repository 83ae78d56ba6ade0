pub mod Held
pub mod State
pub mod Runs
pub mod Told
pub mod Served
