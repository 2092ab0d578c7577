pub mod Told
pub mod Given
pub mod Handed
pub mod Lent
