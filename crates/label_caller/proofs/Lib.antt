pub mod HeldEntries
pub mod SaidAnswers
