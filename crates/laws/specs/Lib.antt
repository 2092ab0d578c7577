pub mod Ladder
pub mod Below
pub mod Examples
pub mod Determined
