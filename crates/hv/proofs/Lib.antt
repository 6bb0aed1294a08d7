pub mod Pairs
pub mod Faults
pub mod Trails
pub mod Measure
pub mod Stand
