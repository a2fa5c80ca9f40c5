pub mod LinkedUnmap
pub mod UnmapLists
pub mod UnmapShown
pub mod Unmapping
