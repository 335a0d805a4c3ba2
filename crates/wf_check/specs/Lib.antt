pub mod FaultText
pub mod Improper
pub mod Proper
pub mod Ranks
pub mod UnitPaths
pub mod UnitRules
