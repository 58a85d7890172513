-- entries of a history, its beginnings, and facts of each element
pub mod HistoryLemmas
-- the numbers of passes, and the parts of the right to close
pub mod NumberLemmas
-- the rule where one view changes, and where a turn begins or ends
pub mod RuleLemmas
-- each step keeps the rule
pub mod StepLemmas
-- a turn from its try to its end
pub mod TurnLemmas
-- passes that were split or joined, and the close
pub mod PassLemmas
