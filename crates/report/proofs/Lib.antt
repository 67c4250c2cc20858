pub mod Writing
pub mod Turns
pub mod Runs
pub mod Openings
pub mod Endings
pub mod ReportLaws
pub mod Recovering
