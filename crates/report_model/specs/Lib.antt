pub mod Reports
pub mod Intake
pub mod Kept
pub mod Laws
pub mod Examples
