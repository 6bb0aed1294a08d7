pub mod Comparing
pub mod Checking
pub mod NamedNets
pub mod RightTrials
