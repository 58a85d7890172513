-- the look-up of a request by its type
pub mod TypeLemmas
-- one event more, and its pair
pub mod EventLemmas
-- the scene that a name finds, and what a look at a row shows
pub mod SoughtLemmas
-- what a change of the program says
pub mod ProgramLemmas
-- a source that is made in an action of its own
pub mod MakingLemmas
-- what makes the line of a request proper
pub mod ProperLemmas
