pub mod Cuts
pub mod Folding
pub mod HexDigits
pub mod Splits
