pub mod Soaked
pub mod Between
