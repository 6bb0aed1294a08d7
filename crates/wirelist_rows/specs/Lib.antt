pub mod Filled
pub mod Refusals
