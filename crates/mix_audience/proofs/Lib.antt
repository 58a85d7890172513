-- maps and look-ups of lists under a map
pub mod Lists
-- each call on one connection: as contracts see it, its session, and its lane
pub mod Each
-- the two lists, and what they stand for after a call
pub mod Kept
-- events that come one after another
pub mod InOrder
