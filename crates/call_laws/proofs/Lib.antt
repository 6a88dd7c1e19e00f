pub mod Trails
pub mod Promised
