pub mod Layout
pub mod Queues
pub mod Fits
