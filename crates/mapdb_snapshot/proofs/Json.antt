pub mod Adding
pub mod ListsComeBack
pub mod ReadItems
pub mod ReadMembers
pub mod ReadRows
pub mod RowsComeBack
