mod ByPlace
mod FlaggedPlaces
mod PairRows
mod GivenParts
mod PlacedParts
mod PlacedBodies
mod LoopParts
pub mod SameText
pub mod PutTexts
mod WorkedTexts
mod BareGrammar
mod WholeTexts
mod ShownFound
pub mod OneText
