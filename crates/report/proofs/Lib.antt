pub mod Adopted
pub mod RecordLines
pub mod Counted
pub mod FirstTests
pub mod PlainRows
pub mod RowLemmas
pub mod LotLemmas
pub mod CellLemmas
