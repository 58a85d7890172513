pub mod list
pub mod members
