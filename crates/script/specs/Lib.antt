pub mod Closing
pub mod Said
pub mod After
pub mod Scene
pub mod Saying
pub mod Turns
pub mod Ends
pub mod Growth
pub mod Headline
pub mod RigLines
pub mod Ran
pub mod Causes
pub mod Keeping
pub mod Opened
pub mod Shown
-- what only the bodies' own contracts and invariants cite
pub mod Asking
