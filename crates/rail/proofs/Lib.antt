pub mod Rising
pub mod Dense
pub mod Newest
pub mod Live
pub mod Whole
