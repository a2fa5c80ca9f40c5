pub mod Net
pub mod Run
pub mod Laws
pub mod Steps
pub mod Honest
pub mod Kept
pub mod Alone
pub mod Unmaps
