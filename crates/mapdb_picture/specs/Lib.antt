pub mod Labels
pub mod Picture
pub mod Chain
pub mod Explanation
pub mod Loading
pub mod Laws
