pub mod Keeping
pub mod Entries
pub mod OneOpening
pub mod Mounting
pub mod Opens
