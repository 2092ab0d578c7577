pub mod PlayLaws
pub mod Walks
pub mod ReplayTheorems
