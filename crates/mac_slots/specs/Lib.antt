pub mod Slots
pub mod Owned
pub mod Lends
