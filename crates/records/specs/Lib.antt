pub mod Guard
pub mod Kinds
