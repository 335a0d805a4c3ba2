pub mod FirstProductions
pub mod GoingOn
pub mod KeepsOrChanges
