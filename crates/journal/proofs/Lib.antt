pub mod Bytes
pub mod LawLemmas
pub mod writing
pub mod wholes
