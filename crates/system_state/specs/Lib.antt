pub mod Layout
pub mod Words
pub mod Fits
pub mod Fresh
