pub mod Flags
pub mod Pairs
pub mod Steps
pub mod Comparing
pub mod FaultText
pub mod ComparedText
