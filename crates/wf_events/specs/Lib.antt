pub mod EventForm
pub mod Plain
pub mod Spelling
