pub mod Slots
pub mod Moves
pub mod Parcels
pub mod Posts
pub mod Claims
