pub mod LastParts
pub mod WordViews
pub mod Answers
