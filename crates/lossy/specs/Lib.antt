pub mod LossRules
pub mod Losses
pub mod PatternRules
pub mod Patterns
