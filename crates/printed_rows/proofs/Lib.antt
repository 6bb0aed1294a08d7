pub mod Fields
pub mod ReadBack
pub mod ProgramRows
pub mod NetSizes
pub mod Lengths
pub mod Printed
