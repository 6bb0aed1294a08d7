pub mod Dates
pub mod Commands
pub mod SamePrograms
pub mod Scan
pub mod Facts
pub mod Decide
pub mod Decided
pub mod Laws
-- what only the bodies' own contracts and the book's invariant cite
pub mod NameMaps
pub mod FactsAfter
pub mod RuleParts
pub mod IsIndex
