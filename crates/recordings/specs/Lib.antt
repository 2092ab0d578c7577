pub mod Layout
pub mod Numbers
pub mod Records
pub mod Blocks
pub mod Writing
pub mod Putting
