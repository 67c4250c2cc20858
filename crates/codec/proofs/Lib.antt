pub mod Scan
pub mod WordLaws
