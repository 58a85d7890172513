-- reading and writing of escaped texts
pub mod FindLemmas
pub mod EscapeLemmas
-- numbers and their digits
pub mod NumberLemmas
-- what a reader answers
pub mod ReadLemmas
-- digits of base sixteen
pub mod DigitLemmas
-- how long lines are
pub mod LengthLemmas
-- lines and actions
pub mod LineLemmas
-- what a connection says
pub mod SaidLemmas
-- lines hold no line feed
pub mod FeedLemmas
-- the text of pixels one after another
pub mod Pixels
-- the samples of a block, track by track
pub mod Samples
-- lines that are written one behind the other
pub mod Written
