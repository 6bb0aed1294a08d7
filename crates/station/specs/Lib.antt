pub mod Commands
pub mod Step
pub mod View
pub mod Ended
pub mod RigAfter
pub mod Mounted
pub mod AnswerText
pub mod Laws
-- what only the bodies' own contracts and invariants cite
pub mod Applied
