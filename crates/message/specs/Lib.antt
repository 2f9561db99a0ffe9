pub mod Sac
pub mod Message
