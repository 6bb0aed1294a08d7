pub mod Coded
pub mod Merges
pub mod Opens
pub mod Pieces
pub mod Stops
pub mod Counts
