pub mod Searched
pub mod Settling
pub mod RowEdits
pub mod Edited
pub mod Asked
pub mod Whole
