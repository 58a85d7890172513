-- a mask of 0 wants nothing
pub mod Masks
-- maps in place, over a list of which a first part is done
pub mod InPlace
-- how often keys stand in lists
pub mod Counts
-- what stays of the events that wait
pub mod Views
-- events are held as often as they wait
pub mod Held
-- what the fields of a fan-out stand for
pub mod Fans
