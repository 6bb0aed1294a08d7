pub mod RecordBytes
pub mod RecordRanges
pub mod Reading
pub mod Orders
pub mod Laws
