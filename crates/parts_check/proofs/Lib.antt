pub mod Turning
pub mod Stopping
pub mod LastReads
pub mod SameFaults
pub mod Ranging
pub mod Counted
pub mod Order
pub mod Together
