pub mod Closed
pub mod Looking
