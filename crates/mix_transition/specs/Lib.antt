pub mod Seen
pub mod Shape
pub mod Inside
pub mod Laws
