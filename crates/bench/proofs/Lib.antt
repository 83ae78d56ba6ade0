pub mod Gaps
pub mod Places
pub mod Orders
pub mod Steps
pub mod Rowed
pub mod Standings
