pub mod Rows
pub mod Places
pub mod Units
pub mod Harness
pub mod Refusals
pub mod Above
pub mod Laws
-- what only the bodies' own contracts and invariants cite
pub mod Numbers
pub mod Forest
pub mod Pairs
