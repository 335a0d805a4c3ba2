pub mod ExportText
pub mod Adds
pub mod Shown
