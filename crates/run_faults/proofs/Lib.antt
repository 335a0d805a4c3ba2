pub mod Beginnings
pub mod NewNames
