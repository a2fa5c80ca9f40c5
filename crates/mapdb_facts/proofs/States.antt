pub mod AddedStates
pub mod Formed
pub mod Joins
pub mod Knowing
pub mod Newness
pub mod Unions
