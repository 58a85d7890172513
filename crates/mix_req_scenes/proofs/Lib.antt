-- which serials are short, and how many scenes there can be
pub mod ShortLemmas
-- the preview, and what its row is
pub mod PreviewLemmas
-- no answer has a fractional number
pub mod AnswerLemmas
pub mod ChangingLemmas
-- the entries of the scenes, and the parts of a list
pub mod ListingLemmas
-- what holds of the line of each request
pub mod LineLemmas
