pub mod Opened
pub mod Opens
pub mod Wrong
