pub mod Points
pub mod Costs
pub mod Limits
pub mod Weights
