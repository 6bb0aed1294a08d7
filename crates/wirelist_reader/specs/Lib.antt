pub mod Kinds
pub mod Rows
pub mod Refusals
pub mod Laws
-- what only the bodies' own contracts cite
pub mod Reading
pub mod Seen
