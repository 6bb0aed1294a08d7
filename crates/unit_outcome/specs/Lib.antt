pub mod Defined
pub mod Enough
pub mod Found
pub mod Shown
pub mod Spent
pub mod Tested
