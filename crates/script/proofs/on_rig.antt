-- What the rig and the counts of faults show.
pub mod Rigs
pub mod Exits
pub mod Causing
pub mod Shapes
pub mod Tallying
pub mod Showing
