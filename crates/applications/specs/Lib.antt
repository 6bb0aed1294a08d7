pub mod Counting
pub mod Measuring
pub mod Enduring
pub mod Standing
pub mod Ordered
pub mod Each
pub mod Charge
-- what only the bodies' own contracts and invariants cite
pub mod Steps
pub mod Holding
