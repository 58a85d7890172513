-- the collection of the stage
pub mod StageLemmas
-- what a list has at an index
pub mod ListedLemmas
-- an item that is hidden
pub mod EnabledLemmas
