pub mod FormedLaws
pub mod SoundLaws
pub mod MessageLaws
pub mod KeptLaws
pub mod NumberLaws
pub mod Determined
pub mod OneToOne
pub mod Theorems
