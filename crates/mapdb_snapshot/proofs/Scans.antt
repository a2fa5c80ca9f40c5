pub mod Digits
pub mod OpenRows
