pub mod Back
pub mod Fields
pub mod Growing
pub mod Reading
pub mod Tokens
pub mod Trees
pub mod Writing
