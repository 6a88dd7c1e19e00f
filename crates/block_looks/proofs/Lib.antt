pub mod Blocks
pub mod Wholes
pub mod Grows
pub mod Lasts
pub mod Loads
