pub mod CheckText
pub mod ViewText
pub mod Words
pub mod Does
pub mod Family
