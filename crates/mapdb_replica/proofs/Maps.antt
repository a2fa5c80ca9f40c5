pub mod Gathering
pub mod HolderLists
pub mod HolderNames
pub mod MapRecords
pub mod Powerless
