-- Proofs of the laws of `Merge`, one file for each type.
pub mod Bits
pub mod Both
pub mod Entries
pub mod Exact
pub mod Flat
pub mod Grow
pub mod Inserted
pub mod Stepping
pub mod Tidying
pub mod United
