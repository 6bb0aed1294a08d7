pub mod Allowed
pub mod Resting
pub mod NotCharged
pub mod Counted
pub mod one_application
pub mod one_by_one
