pub mod Lines
pub mod Starts
