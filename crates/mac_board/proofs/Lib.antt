mod Board
pub mod Taking
pub mod Editing
pub mod Watching
pub mod Judging
pub mod Sent
