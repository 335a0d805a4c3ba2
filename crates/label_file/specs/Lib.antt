pub mod Stored
pub mod Layout
pub mod Keys
pub mod Hashed
pub mod Adding
pub mod FaultText
