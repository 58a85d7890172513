pub mod Refused
pub mod Created
pub mod NewItems
pub mod Begun
pub mod Laws
