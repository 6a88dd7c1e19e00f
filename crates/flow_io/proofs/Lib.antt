pub mod Begun
pub mod Files
pub mod Given
pub mod Parts
pub mod Said
pub mod Unused
