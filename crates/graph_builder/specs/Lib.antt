pub mod Building
pub mod Chains
pub mod Reading
pub mod Built
pub mod Used
