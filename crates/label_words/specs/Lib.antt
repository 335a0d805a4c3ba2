pub mod Digits
pub mod Verdicts
