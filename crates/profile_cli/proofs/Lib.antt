pub mod Stored
pub mod Listed
pub mod Held
pub mod Planned
pub mod Said
pub mod Due
pub mod Left
pub mod Names
