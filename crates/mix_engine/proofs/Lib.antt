-- the open connections, and what an action leaves of them
pub mod Listening
-- the shape of what an outcome leaves
pub mod Shapes
-- a connection that goes
pub mod Leavers
-- what the steps of the code answer and leave
pub mod Stepping
-- what an open connection said, and what comes of it
pub mod HeardLemmas
-- who comes, goes, or is identified is the one whose entry it is
pub mod Actors
-- what waits for a connection is its queue
pub mod QueueLemmas
-- how far numbers go on
pub mod Growth
-- what ties an engine to its journal, after one entry more
pub mod Replays
-- the mixer that a collection opens, and the engine over it
pub mod Openers
-- a request over the parts that the code keeps
pub mod AskLemmas
-- a frame that is taken, and one that is given back
pub mod FrameLemmas
