pub mod Standing
pub mod Order
pub mod FaultNames
pub mod NewNames
