pub mod Memory
pub mod Holding
pub mod Seats
