pub mod TurnLemmas
pub mod ServeLemmas
pub mod ReportLemmas
pub mod DueLemmas
pub mod RepliesLemmas
pub mod OrderLemmas
pub mod RigLeftLemmas
