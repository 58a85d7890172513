-- which events a connection takes
pub mod Taking
-- the open connections, and what actions make of them
pub mod Listeners
-- the events of an action, and which of them the one that acts takes
pub mod Acting
-- how the open connections are kept: two lists beside each other
pub mod Sides
