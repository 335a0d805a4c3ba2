pub mod Answers
pub mod Does
pub mod Prepared
pub mod Told
pub mod Words
pub mod Family
