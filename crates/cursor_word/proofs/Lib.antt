pub mod Words
pub mod Blocks
pub mod Places
pub mod Apart
pub mod Starts
