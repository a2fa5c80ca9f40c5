pub mod BatchRead
pub mod ComingBack
pub mod Fitting
pub mod GivingTold
pub mod LoadingTold
pub mod TakingTold
pub mod Telling
mod Values
