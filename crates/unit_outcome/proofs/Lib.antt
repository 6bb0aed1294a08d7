pub mod FirstBreakdown
pub mod Told
