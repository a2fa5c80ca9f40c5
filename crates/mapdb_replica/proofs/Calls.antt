pub mod AllBut
pub mod AppliedLemmas
pub mod CallCases
pub mod FormedIssues
pub mod Issuing
pub mod Limits
pub mod SoundIssues
