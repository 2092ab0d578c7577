pub mod PartLaws
pub mod WithLaws
pub mod SoundLaws
pub mod ChannelLaws
pub mod FreshLaws
pub mod FreshParts
pub mod Determined
pub mod Theorems
