pub mod CivilDays
pub mod ReadDates
pub mod CommandLemmas
pub mod ProgramLemmas
pub mod Pushed
pub mod HistoryLemmas
pub mod IndexLemmas
pub mod DecideLemmas
