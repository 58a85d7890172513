-- which numbers stand in valid settings
pub mod ValidLemmas
-- what a reader of a key gives is in its range, and what is in it is read again
pub mod KeyLemmas
-- what a table of keys gives is valid
pub mod CheckedLemmas
-- the bars of a moving pattern, within two bars
pub mod BarLemmas
-- what is written is accepted again
pub mod AgainLemmas
