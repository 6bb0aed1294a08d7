pub mod Soaking
