pub mod Between
pub mod Closing
pub mod Entries
pub mod Keeping
pub mod Places
pub mod PutLeaves
pub mod Reach
pub mod Stages
