pub mod Tokens
pub mod Numbers
pub mod Bounds
pub mod Values
pub mod Items
pub mod Writing
