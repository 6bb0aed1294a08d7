pub mod Numbers
pub mod Searching
pub mod Marks
pub mod Sums
pub mod Logging
pub mod SimLemmas
pub mod Seating
