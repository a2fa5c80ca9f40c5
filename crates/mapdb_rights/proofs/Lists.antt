pub mod AllBut
pub mod LeastNames
pub mod NamedRecords
pub mod Passing
