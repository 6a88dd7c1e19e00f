pub mod Rule
pub mod Buffer
pub mod Call
pub mod Midway
pub mod Queue
