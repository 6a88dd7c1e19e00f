pub mod Folded
pub mod Nested
