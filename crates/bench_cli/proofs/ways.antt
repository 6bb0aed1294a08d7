-- The ways in which a run ends, from its parts and by its status.
pub mod UnitLemmas
pub mod TakingLemmas
pub mod UnitWays
pub mod SeatedLemmas
pub mod FileWays
pub mod ServeWork
pub mod Obeying
pub mod RunWays
