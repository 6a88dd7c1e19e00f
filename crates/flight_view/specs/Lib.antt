pub mod Walks
pub mod Views
pub mod Parts
pub mod Schedules
pub mod Promised
pub mod Spots
pub mod Viewers
