pub mod Runs
pub mod Nodes
pub mod Opening
pub mod Found
pub mod Growing
pub mod Taking
