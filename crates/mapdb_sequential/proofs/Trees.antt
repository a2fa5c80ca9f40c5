pub mod Linking
pub mod PageAnswers
pub mod PathTrees
pub mod Showing
pub mod Starting
pub mod TreeLists
pub mod TreeSteps
pub mod Walking
