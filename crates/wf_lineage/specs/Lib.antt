pub mod Directions
pub mod Listed
pub mod Lines
pub mod Laws
