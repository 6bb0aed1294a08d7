pub mod Compared
pub mod Trials
