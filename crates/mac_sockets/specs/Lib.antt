pub mod Budget
pub mod Connections
pub mod Entrance
pub mod Heavy
pub mod Lends
