pub mod Studios
pub mod Programs
pub mod Shots
pub mod Ticks
pub mod Lending
pub mod Openings
