pub mod Alone
pub mod Among
pub mod HonestRuns
pub mod HonestSteps
pub mod Issuers
pub mod Running
pub mod Unmaps
