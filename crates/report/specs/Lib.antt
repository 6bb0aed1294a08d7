pub mod UnitText
pub mod LotText
pub mod ResultText
-- what only the bodies' own contracts and invariants cite
pub mod Programs
pub mod Few
pub mod Counting
pub mod Writing
pub mod Cells
