-- both of two tests
pub mod TestLemmas
-- numbers counted from 0
pub mod Counting
-- planes, row by row
pub mod Planes
-- squares of four pixels
pub mod Squares
-- the tracks of a mask, and how many bytes they have
pub mod Tracks
