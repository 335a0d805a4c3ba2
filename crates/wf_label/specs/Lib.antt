pub mod Values
pub mod Parts
pub mod Marks
pub mod Checkpoints
pub mod ShortBits
