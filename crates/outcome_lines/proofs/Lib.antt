pub mod LabelLemmas
pub mod ClusterFirsts
pub mod Appending
