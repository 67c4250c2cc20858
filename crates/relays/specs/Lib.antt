pub mod RelayRules
pub mod Relays
pub mod RelayedRules
