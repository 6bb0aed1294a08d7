pub mod Answering
pub mod Taking
pub mod Stopping
pub mod Begun
