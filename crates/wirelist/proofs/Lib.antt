pub mod ClusterLemmas
pub mod ClusterLaw
pub mod PrintingLemmas
pub mod EqualLemmas
