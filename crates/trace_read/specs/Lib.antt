pub mod Command
pub mod Event
pub mod Listed
pub mod Reading
pub mod Totals
