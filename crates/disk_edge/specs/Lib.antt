pub mod Disk
pub mod FileDisk
pub mod FileDiskState
pub mod Image
pub mod MemDisk
pub mod MemDiskState
-- what only the bodies' own contracts and invariants cite
pub mod MemDiskLaws
pub mod Since
