pub mod Tables
pub mod Looped
pub mod Entries
pub mod Good
pub mod Laws
