pub mod Seen
pub mod Follows
pub mod Loop
pub mod LeftItems
pub mod Lengths
pub mod Last
