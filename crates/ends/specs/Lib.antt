pub mod Observers
pub mod Senders
