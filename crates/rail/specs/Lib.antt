pub mod Entry
pub mod Items
pub mod Batch
pub mod EntryBack
pub mod Told
pub mod Outcome
pub mod Rail
pub mod Sequential
