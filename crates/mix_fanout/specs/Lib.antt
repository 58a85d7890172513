-- connections with what waits for them, and what the calls make of them
pub mod Lanes
-- lists of keys in place of events, and how many lists each key stands in
pub mod Keys
