pub mod LastParts
pub mod LiftedBits
pub mod WordsTold
pub mod StatesTried
pub mod WordCosts
