pub mod FaultText
pub mod Keeping
pub mod Rounds
