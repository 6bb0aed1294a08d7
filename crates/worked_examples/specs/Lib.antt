pub mod Harnesses
pub mod Units
pub mod Programs
pub mod Records
