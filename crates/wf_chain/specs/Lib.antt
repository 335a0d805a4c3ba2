pub mod HeldItems
pub mod ViewedRuns
pub mod Steps
pub mod Chains
pub mod ItemLists
pub mod ItemSteps
pub mod ItemGraphs
