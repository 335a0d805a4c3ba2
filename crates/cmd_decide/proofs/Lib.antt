pub mod OneDecision
pub mod TwoLabels
pub mod SomeDecision
pub mod OneDeciding
pub mod GoodDeciding
