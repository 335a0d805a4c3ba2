pub mod Laid
pub mod NamesAhead
pub mod EntryFronts
pub mod EntryParts
pub mod HeadReadings
pub mod NamedEntries
pub mod ReadSoFar
pub mod SomeReading
