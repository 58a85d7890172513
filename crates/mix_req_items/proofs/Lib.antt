-- the scene or group that a name finds
pub mod HolderLemmas
-- the item of an id, one by one from the bottom
pub mod ItemLemmas
-- what an item that was found has beside it
pub mod FoundLemmas
-- an item that is changed in an action of its own
pub mod ChangeLemmas
-- a new item
pub mod CreateLemmas
-- what makes the lines of the table proper
pub mod LineLemmas
