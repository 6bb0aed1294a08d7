-- What a run promises, from the way in which it ended.
pub mod FrameFacts
pub mod UnitFacts
pub mod ReadAlone
pub mod CheckFacts
pub mod LearnFacts
pub mod ScriptFacts
pub mod ImportFacts
pub mod ServeFacts
pub mod ReportFacts
pub mod SoakFacts
pub mod SoundFacts
pub mod IsRunFacts
