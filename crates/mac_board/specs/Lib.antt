-- what the contracts mean
pub mod Access
pub mod Board
pub mod Follows
pub mod Editor
pub mod Listing
pub mod Publisher
pub mod Sight
pub mod Watcher
pub mod Noticed
