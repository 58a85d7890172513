pub mod Keys
pub mod Defaults
pub mod Rasters
pub mod Checked
pub mod Answers
pub mod Written
pub mod Laws
