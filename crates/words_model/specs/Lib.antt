pub mod Automata
pub mod Words
pub mod Lifting
pub mod Verdicts
pub mod Laws
pub mod Examples
pub mod LoopingWords
