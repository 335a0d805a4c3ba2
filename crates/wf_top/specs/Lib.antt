pub mod Families
pub mod Outcome
pub mod Meets
pub mod Counts
