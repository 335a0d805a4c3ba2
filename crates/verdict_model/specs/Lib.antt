pub mod Telling
pub mod Verdicts
pub mod Laws
pub mod Examples
