pub mod Decoding
pub mod Reports
pub mod Tallies
pub mod Texts
