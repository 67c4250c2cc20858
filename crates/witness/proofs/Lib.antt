pub mod Reached
pub mod Computed
