pub mod Http
pub mod Logging
pub mod Rights
pub mod Shape
pub mod Status
pub mod Watching
pub mod Doors
