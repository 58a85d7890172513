-- what unfolds this unfolds every definition
pub mod Rules
-- the worked situations have the shape of all states
pub mod WorkedShape
-- members of lists
pub mod SetLemmas
-- more rounds leave ranks and weights as they are
pub mod RankLemmas
-- the test for a walk is the rule by walks
pub mod WalkLemmas
-- ranks of at most sixteen fall
pub mod FallLemmas
-- what the settling leaves as it was
pub mod SettleLemmas
-- what dies after the settling
pub mod DyingLemmas
-- what is destroyed next is held by nothing
pub mod DestroyLemmas
-- marks tell as much as their state
pub mod MarkLemmas
-- what still holds a removed source
pub mod RemovalLemmas
-- the test for a holder is passed where there is a place
pub mod HeldLemmas
-- what a new item holds
pub mod AddLemmas
-- more rounds leave a drawing as it is
pub mod DrawingLemmas
-- bytes that have the colour of each pixel
pub mod FilledLemmas
-- what is heard is what is active
pub mod VoiceLemmas
-- ranks and weights are the same where the insides are alike
pub mod AlikeLemmas
-- changes of rows that keep serials and kinds, and what is seen of rows by their serials
pub mod SteadyLemmas
-- changes of rows that serials, kinds, children and ids don't see
pub mod BlindLemmas
-- such changes keep what holds of the sources
pub mod KeptShape
-- lists in which no number is twice
pub mod DistinctLemmas
-- the settling of an edit leaves what holds of the sources
pub mod SettledShape
-- edits that keep what holds of the sources
pub mod EditShape
-- where every row is named, what refuses a line is what refuses its call
pub mod CalledLemmas
