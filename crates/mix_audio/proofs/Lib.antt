-- how large a share is, and a sum of shares
pub mod Shares
-- a sample at a volume and a weight, in whole numbers of 64 bits
pub mod Scaling
-- one frame is written, and the others stay
pub mod Written
-- samples that stand frame by frame are the tracks one after the other
pub mod Stereo
-- a block of frames is the block that is meant, and fits sixteen bits
pub mod Blocks
-- tracks one after the other, read frame by frame
pub mod Heard
-- what the definition of a block promises
pub mod LawLemmas
