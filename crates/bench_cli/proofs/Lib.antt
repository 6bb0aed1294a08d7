pub mod ways
pub mod frames
pub mod facts
