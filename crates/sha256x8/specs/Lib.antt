pub mod Lanes
pub mod Padded
pub mod Begun
