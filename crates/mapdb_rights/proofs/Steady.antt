pub mod PageRuns
pub mod ShownRuns
pub mod SteadyPages
pub mod SteadySpaces
