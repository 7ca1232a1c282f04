pub mod Totals
pub mod Balance
pub mod Passes
