pub mod Lines
pub mod Visits
pub mod Keeping
pub mod InTurn
pub mod Tallied
pub mod Counted
pub mod Completes
pub mod Opened
