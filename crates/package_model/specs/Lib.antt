pub mod Shown
pub mod Packages
pub mod Loops
pub mod Translating
pub mod Consulting
pub mod Laws
pub mod TranslationLaws
pub mod Examples
