-- how large a step can be
pub mod StepLemmas
-- a pixel that an item shows is a pixel of its child
pub mod PlaceLemmas
-- a plan is the recursive drawing
pub mod DrawnLemmas
-- each draw of a plan is valid
pub mod ValidLemmas
-- each draw of a plan has the tick of a row
pub mod SinceLemmas
-- the loops that list items and roots
pub mod LoopLemmas
