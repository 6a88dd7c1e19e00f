pub mod ListSeats
pub mod Numbers
pub mod OnlySeat
