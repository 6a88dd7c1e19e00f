pub mod Closed
pub mod Settles
