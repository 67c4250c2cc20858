pub mod Faults
pub mod Makings
pub mod States
