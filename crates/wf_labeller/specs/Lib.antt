pub mod Entries
pub mod Groups
pub mod Keeping
pub mod Pieces
pub mod Taking
