pub mod Cuts
pub mod Fronts
pub mod NameBytes
pub mod Names
pub mod NamesOrNot
