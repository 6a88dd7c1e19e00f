mod Entries
pub mod Lines
mod Nested
mod Stacks
mod Times
