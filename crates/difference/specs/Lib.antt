pub mod Difference
pub mod DifferenceRanges
pub mod Rebuild
pub mod Measured
pub mod Labelling
pub mod Laws
