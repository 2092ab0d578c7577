pub mod Time
pub mod Marked
