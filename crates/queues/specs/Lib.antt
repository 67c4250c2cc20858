pub mod BufferRules
pub mod Buffers
pub mod LineRules
pub mod Lines
pub mod RingRules
pub mod Rings
