pub mod Bytes
pub mod Decimal
pub mod Places
pub mod Readings
pub mod Determined
pub mod Spelling
pub mod Theorems
