pub mod OneBit
pub mod Roundtrip
pub mod Shifts
