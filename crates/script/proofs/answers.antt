-- What was answered, and what an output got.
pub mod Written
pub mod History
pub mod Told
pub mod Closings
pub mod Running
pub mod Applied
pub mod Commanded
