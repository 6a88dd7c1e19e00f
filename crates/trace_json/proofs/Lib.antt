pub mod Pending
pub mod Parts
