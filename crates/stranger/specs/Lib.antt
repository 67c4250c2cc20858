pub mod HoleRules
pub mod Holes
