pub mod Words
pub mod Decided
pub mod Does
pub mod Family
