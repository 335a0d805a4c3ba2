pub mod Words
pub mod EventLines
pub mod Putting
pub mod DrillText
pub mod DrillLaws
pub mod HeldLabels
pub mod Does
pub mod Family
