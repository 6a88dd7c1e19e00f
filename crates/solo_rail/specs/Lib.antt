pub mod Lone
pub mod Holding
pub mod Solo
pub mod Retry
pub mod Drop
