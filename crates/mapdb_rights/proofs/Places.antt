pub mod PlaceNames
pub mod PlaceWalks
pub mod SharedPlaces
pub mod Sweeps
pub mod Unlisted
