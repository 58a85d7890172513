pub mod CreateInput
pub mod Inputs
pub mod Laws
