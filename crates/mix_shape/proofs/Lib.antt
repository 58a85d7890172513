-- what all of a list pass, what some do, and sums over lists
pub mod SumLemmas
-- names taken, numbers not given yet, fewer holders, and rows with fewer items or in another order
pub mod ThinnerLemmas
-- what look-ups find, scenes of the registry, and what marks tell of what stands
pub mod MarkedLemmas
-- to set an input, to rename a source, or to list a new one keeps it
pub mod SetShape
-- to take an item out, to move it, or to remove a source keeps it
pub mod ThinnerShape
-- what is beside rows and registry
pub mod BesideShape
-- a frame in flight, and its end, keep it; what the settling leaves alone
pub mod FrameShape
-- channels, holds, watches, the preview and the clock keep it
pub mod HoldShape
-- the row that is destroyed next, and what is left, which keeps it
pub mod DestroyedShape
-- a new item keeps it; what a look at the sources shows is valid
pub mod AddedShape
-- named rows, and a new row: all but names and limits
pub mod GrownShape
-- new sources keep it
pub mod CreatedShape
-- what a new item makes of ranks, weights and numbers
pub mod WithLemmas
-- the shape from call to call, and that of no sources
pub mod WholeLemmas
-- a new row without items makes no row deeper, and lets none die
pub mod BareLemmas
