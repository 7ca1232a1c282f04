pub mod Signals
pub mod Handed
pub mod Notify
pub mod Journal
