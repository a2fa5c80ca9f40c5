pub mod Telling
pub mod ChainLemmas
pub mod LoadLemmas
pub mod SameAtoms
pub mod ReferredNames
