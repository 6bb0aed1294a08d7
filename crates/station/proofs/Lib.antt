pub mod Ending
pub mod Applying
pub mod Stopping
pub mod Following
pub mod Days
pub mod Repeating
