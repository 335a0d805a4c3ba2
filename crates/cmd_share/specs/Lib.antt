pub mod Words
pub mod Told
pub mod PackageTold
pub mod Consulted
pub mod Stops
pub mod Does
pub mod Family
