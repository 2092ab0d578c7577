pub mod CheckLaws
pub mod TypedLaws
pub mod ReadyActions
pub mod ReadyParts
pub mod Determined
pub mod Theorems
