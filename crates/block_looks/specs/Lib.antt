pub mod Table
pub mod Looks
pub mod Shown
pub mod Laws
