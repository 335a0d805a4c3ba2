pub mod Readable
pub mod Parts
pub mod Chains
pub mod Translated
pub mod Laws
