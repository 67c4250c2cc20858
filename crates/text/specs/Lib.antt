pub mod Digits
pub mod Hex
pub mod Lines
pub mod Parts
