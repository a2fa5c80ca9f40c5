pub mod Among
pub mod Comparing
pub mod Including
pub mod RunLists
pub mod SameLists
pub mod SameNames
