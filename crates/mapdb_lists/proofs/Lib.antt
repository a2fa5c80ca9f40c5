pub mod ChangeLemmas
pub mod Lists
pub mod PlaceLemmas
