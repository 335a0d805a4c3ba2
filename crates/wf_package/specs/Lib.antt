pub mod PackageText
pub mod Laws
pub mod Examples
pub mod Parts
