pub mod Line
pub mod Answers
pub mod Lines
pub mod Answering
pub mod Known
