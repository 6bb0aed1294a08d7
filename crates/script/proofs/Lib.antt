pub mod disk
pub mod answers
pub mod on_rig
