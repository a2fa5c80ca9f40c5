pub mod MapLists
pub mod Mapping
