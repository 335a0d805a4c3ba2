pub mod Words
pub mod Ingested
pub mod Does
pub mod Family
