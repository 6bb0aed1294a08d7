pub mod Labels
pub mod OutcomeLines
pub mod VerdictText
pub mod FirstNets
