pub mod Chains
pub mod Shortest
pub mod ChainText
pub mod Laws
pub mod Examples
pub mod TwistingChains
pub mod DiamondChains
