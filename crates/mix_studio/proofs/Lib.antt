-- what is settled twice is settled once
pub mod TwiceLemmas
-- what is held while channel 0 is set, or a frame is taken
pub mod HeldLemmas
-- scenes of the registry, and what may stand on channel 0
pub mod SceneLemmas
-- what the calls keep of what holds of every studio
pub mod ShapeLemmas
-- a scene that is removed
pub mod RemovalLemmas
-- a picture that is taken
pub mod TickLemmas
-- the shot of a studio
pub mod ShotLemmas
-- sources of lines
pub mod FreshLemmas
-- each line of a collection
pub mod LineLemmas
-- the studio that a collection opens
pub mod OpeningLemmas
-- what the calls leave of the whole studio
pub mod ChangeLemmas
-- an action that begins
pub mod BegunLemmas
-- sources that are lent, and what is owed of them
pub mod LentLemmas
