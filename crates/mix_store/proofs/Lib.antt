-- what is found among elements whose keys rise
pub mod KeyLemmas
-- flags beside rows, put on test by test
pub mod FlagLemmas
-- the flags that a walk puts on
pub mod WalkLemmas
-- the flags that the walks from the channels and the preview put on
pub mod RootLemmas
-- what the settling by flags leaves
pub mod SettleLemmas
-- names, causes, and room for what is created
pub mod CreateLemmas
-- the flags, marks and changes that a graph keeps beside its rows
pub mod KeptLemmas
-- one row changed, and no other
pub mod ChangeLemmas
-- why a new item is refused, and the rows with it
pub mod ItemLemmas
-- the row that is destroyed, and what is left
pub mod DestroyLemmas
-- the least serial above another
pub mod NextLemmas
-- an item that is raised to the top
pub mod MoveLemmas
-- a new item changes the rows near it alone
pub mod NearLemmas
-- why a call that creates or adds is refused, before it takes memory
pub mod CheckLemmas
-- edits that take no memory leave the number of rows, and the clock
pub mod EditLemmas
