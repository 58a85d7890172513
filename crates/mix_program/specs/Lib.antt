pub mod Ends
pub mod Laws
pub mod Opened
pub mod Output
pub mod Run
pub mod Starting
pub mod Words
