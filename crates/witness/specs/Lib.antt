pub mod Witnesses
pub mod Scripts
