pub mod SliceLaws
pub mod HandedLaws
pub mod LentLaws
pub mod GivenLaws
