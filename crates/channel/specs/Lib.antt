pub mod Meaning
pub mod Rules
pub mod Sublists
pub mod WaitRules
pub mod Behaviours
