pub mod Climbing
pub mod Held
pub mod Together
pub mod Parts
pub mod Turns
pub mod Stood
