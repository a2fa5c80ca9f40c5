pub mod Ending
pub mod Issued
pub mod Levels
pub mod PlainLists
pub mod Running
pub mod Settled
pub mod StateSteps
pub mod Stepping
