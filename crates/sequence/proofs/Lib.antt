pub mod Judged
pub mod Contradicted
pub mod Tallying
pub mod Going
pub mod Telling
pub mod Finding
pub mod Halting
pub mod stages
