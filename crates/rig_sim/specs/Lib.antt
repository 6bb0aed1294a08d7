pub mod Counters
pub mod Fixture
pub mod SimRig
pub mod ListRig
-- what only the bodies' own contracts and invariants cite
pub mod Meters
pub mod Logs
pub mod SimView
pub mod ListView
