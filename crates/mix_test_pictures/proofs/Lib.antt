-- what is found in the small tree is valid
pub mod SmallLemmas
