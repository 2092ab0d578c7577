pub mod QueueLaws
pub mod MessageLaws
pub mod ValueLaws
pub mod FitLaws
pub mod UsedLaws
pub mod Theorems
pub mod Determined
