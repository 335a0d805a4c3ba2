pub mod Kinds
pub mod Stages
pub mod Ends
pub mod LineEnds
pub mod Causes
pub mod Promises
pub mod Outcomes
pub mod Families
