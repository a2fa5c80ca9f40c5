pub mod CutNames
pub mod EndedSpaces
pub mod Inserting
pub mod NamesComeBack
