pub mod Span
pub mod Workers
