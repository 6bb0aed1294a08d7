pub mod Images
pub mod Marks
pub mod MemDiskCalls
pub mod Moments
pub mod SinceCalls
