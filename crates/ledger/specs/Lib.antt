pub mod Kept
pub mod Ledger
pub mod Reading
pub mod Opening
pub mod Loaded
pub mod Mounted
pub mod Adding
pub mod Laws
