pub mod PlainTexts
pub mod SpelledData
pub mod ReadBack
pub mod Cuts
pub mod Digits
pub mod Appended
