pub mod Keyed
pub mod Hashed
