-- what is painted is a whole picture
pub mod Painted
-- how runs go on and end
pub mod Runs
-- whose voices a block has
pub mod Sounding
-- the words of a replay, each at its place
pub mod Spoken
-- which statuses are left
pub mod Statuses
