pub mod Models
pub mod Makings
pub mod Calls
pub mod Faults
pub mod Sequences
pub mod Disturbances
