pub mod Systems
pub mod Graphs
pub mod Messages
pub mod Chains
pub mod Built
pub mod Used
