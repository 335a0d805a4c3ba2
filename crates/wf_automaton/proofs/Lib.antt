pub mod Flags
pub mod Leading
pub mod Formed
pub mod Ruled
pub mod OneAutomaton
pub mod SomeAutomaton
pub mod SaidMoves
