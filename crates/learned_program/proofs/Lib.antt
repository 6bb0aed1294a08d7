pub mod ListLemmas
pub mod ClassLemmas
pub mod FaultlessNets
pub mod NameLemmas
pub mod PartitionLaw
pub mod ProgramLaw
