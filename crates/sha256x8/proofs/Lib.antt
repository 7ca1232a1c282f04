pub mod LaneWise
mod Majority
mod Rotations
pub mod PaddedBlocks
pub mod HashAfter
