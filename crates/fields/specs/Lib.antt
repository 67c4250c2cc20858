pub mod Decimals
pub mod Divided
