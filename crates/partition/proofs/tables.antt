pub mod NetLaws
pub mod ClaimLemmas
pub mod IgnoredLemmas
pub mod AloneLemmas
pub mod KeptLemmas
pub mod NetClasses
