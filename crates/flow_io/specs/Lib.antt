pub mod Clock
pub mod Flow
pub mod Held
pub mod Opened
pub mod Reading
pub mod Saying
pub mod Stored
