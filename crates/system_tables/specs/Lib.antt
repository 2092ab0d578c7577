pub mod Sizes
pub mod Layout
pub mod Words
pub mod Ceiling
pub mod Formed
pub mod Sound
