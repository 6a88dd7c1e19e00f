pub mod Endings
pub mod Input
pub mod Messages
pub mod Queue
pub mod Run
pub mod Texts
pub mod Written
