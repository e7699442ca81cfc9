pub mod Handed
pub mod OneImage
pub mod NotStarted
