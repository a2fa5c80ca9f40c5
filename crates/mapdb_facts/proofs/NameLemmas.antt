-- Where names stand, and what their values are.
pub mod ByPlaces
pub mod NearWords
pub mod NamedEntries
pub mod NamesInOrder
pub mod NextNames
pub mod OwnNames
