pub mod Draws
pub mod Turns
pub mod Lines
pub mod Coming
pub mod Held
pub mod Laws
pub mod Examples
