pub mod Facts
pub mod Replay
pub mod Recorded
pub mod Made
