pub mod Number
pub mod Texts
pub mod RequestCounts
pub mod Times
pub mod TimeTexts
pub mod Pages
