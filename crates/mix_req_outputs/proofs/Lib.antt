-- what holds of the line of each request
pub mod LineLemmas
