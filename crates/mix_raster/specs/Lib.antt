pub mod Axes
pub mod Spans
pub mod Ways
pub mod Fills
pub mod Hiding
