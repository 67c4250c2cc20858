mod Places
pub mod Channels
mod Model
pub mod Simulation
mod Labels
mod InStep
mod Wiring
mod InOrder
mod Weights
mod FirstClean
mod RoundsLeft
mod Completion
pub mod Observed
pub mod PassedCheck
pub mod Wear
pub mod Recovery
mod Example
