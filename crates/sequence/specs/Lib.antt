pub mod Wired
pub mod Stages
pub mod Whole
pub mod Halted
