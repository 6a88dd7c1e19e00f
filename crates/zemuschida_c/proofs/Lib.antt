pub mod Boxes
pub mod Counting
pub mod Dealing
pub mod Filling
pub mod Words
