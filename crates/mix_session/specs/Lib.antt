pub mod Close
pub mod Fields
pub mod Hear
pub mod Login
pub mod Op
pub mod SessionState
pub mod Table
