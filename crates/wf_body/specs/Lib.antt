pub mod Body
pub mod Matrices
pub mod Order
pub mod Words
