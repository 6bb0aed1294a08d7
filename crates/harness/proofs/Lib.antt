pub mod RowLemmas
pub mod PlaceLemmas
pub mod Reading
pub mod Collecting
pub mod Trees
pub mod LawLemmas
pub mod Repeats
pub mod Sound
