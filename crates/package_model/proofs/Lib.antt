pub mod Places
pub mod ShownPairs
mod ShownAlike
mod PackagePairs
mod PackageParts
mod PackageBack
mod NumberedNames
mod Sums
mod PackageFormed
pub mod PackageLaws
mod PackageLoops
pub mod LoopSteps
pub mod SameLoops
pub mod ReadOnce
pub mod InsideLabels
mod ReadInGrammar
mod PackageAlternatives
mod ReadInPackage
mod OutOfPackage
mod Translations
mod DefaultShows
mod SameEndpoints
mod Consulted
pub mod WorkedPackages
