pub mod Versions
pub mod Standing
pub mod Laws
pub mod Examples
