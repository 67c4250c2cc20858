pub mod Formats
pub mod Refusals
pub mod Words
