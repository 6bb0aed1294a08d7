-- What a script leaves on the disk.
pub mod Growing
pub mod Limits
pub mod Images
pub mod Leaving
pub mod Openings
