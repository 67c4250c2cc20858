pub mod CommandCalls
pub mod Outputs
pub mod ReadingCalls
pub mod RoundCalls
pub mod WordCalls
