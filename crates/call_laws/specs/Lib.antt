pub mod Calls
pub mod Answers
pub mod Seats
pub mod Left
