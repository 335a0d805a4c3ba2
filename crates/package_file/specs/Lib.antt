pub mod Form
pub mod Unsaid
pub mod Packed
pub mod Numbers
pub mod FaultText
pub mod OutcomeLaw
