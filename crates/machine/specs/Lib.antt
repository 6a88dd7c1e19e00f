pub mod Ops
pub mod Table
pub mod Steps
pub mod Invariant
pub mod Moments
pub mod Bounds
pub mod Entries
