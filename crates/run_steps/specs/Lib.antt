pub mod Lowest
pub mod Steps
pub mod Inner
pub mod Messages
pub mod Waiting
pub mod Listing
pub mod Rows
