pub mod Bits
pub mod Gamma
pub mod Written
pub mod Rooms
pub mod Reading
pub mod Laws
