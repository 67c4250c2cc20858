pub mod Exact
pub mod ExactFaults
pub mod ExactMakings
pub mod ExactRuns
pub mod Folds
pub mod ShapeRuns
