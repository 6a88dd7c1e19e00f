pub mod Kept
pub mod Starts
pub mod Answered
pub mod Stops
mod RetryAlone
mod RetrySettled
mod DropAlone
mod DropSettled
