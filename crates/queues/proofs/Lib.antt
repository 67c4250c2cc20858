pub mod Dues
pub mod Peeks
pub mod Windows
