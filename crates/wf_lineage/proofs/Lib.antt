pub mod ListedNames
pub mod ListedLines
pub mod OneListing
pub mod SomeListing
pub mod EntryLines
pub mod Answered
pub mod ListedCosts
