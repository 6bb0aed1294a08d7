pub mod Wirings
pub mod Broken
pub mod Voltages
pub mod Parting
pub mod Passing
