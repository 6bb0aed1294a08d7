-- what the contracts of public calls say
pub mod PartRule
pub mod Probed
pub mod PartsRead
pub mod Checking
-- what its two loops leave, which only the proofs need
pub mod Turns
