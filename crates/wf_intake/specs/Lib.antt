pub mod Applied
pub mod Growing
pub mod Intakes
pub mod Reported
pub mod Rounds
