pub mod Spellings
mod Tids
