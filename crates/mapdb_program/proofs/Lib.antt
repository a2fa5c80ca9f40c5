pub mod CommandLemmas
pub mod EndLemmas
pub mod ReportLemmas
pub mod SnapshotLemmas
