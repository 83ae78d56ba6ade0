pub mod Best
pub mod MaxMin
pub mod Cheapest
pub mod Pooling
pub mod Entries
pub mod Calls
pub mod Crossings
