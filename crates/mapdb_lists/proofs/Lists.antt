pub mod Entries
pub mod LastTwo
pub mod ListedOrder
pub mod Results
