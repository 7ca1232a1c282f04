pub mod Badge
pub mod Exchange
pub mod Minted
pub mod Requested
pub mod Standing
