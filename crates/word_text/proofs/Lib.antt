pub mod Splits
pub mod Tables
pub mod Totals
pub mod Order
pub mod Occurrences
pub mod Ranges
pub mod Cuts
pub mod Merging
