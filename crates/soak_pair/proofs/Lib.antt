pub mod SoakNets
pub mod SoakUnits
