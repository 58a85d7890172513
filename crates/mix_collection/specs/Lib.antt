pub mod Collections
pub mod Laws
pub mod Names
pub mod Options
pub mod Read
pub mod Readers
pub mod Within
