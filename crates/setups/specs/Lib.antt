pub mod Setups
pub mod Stacks
