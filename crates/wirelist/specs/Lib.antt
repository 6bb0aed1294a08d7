pub mod Numbers
pub mod Ranges
pub mod Outcomes
pub mod Canonical
pub mod Clusters
pub mod Programs
pub mod Laws
-- what only the bodies' own contracts cite
pub mod Linking
pub mod SamePrograms
