pub mod Walks
pub mod OneStep
pub mod TwoOptions
pub mod Places
pub mod Asking
pub mod OneReading
