pub mod FaultText
pub mod Cycles
pub mod Loops
pub mod Reaching
pub mod Rounds
pub mod Steps
