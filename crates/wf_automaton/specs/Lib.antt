pub mod Forms
pub mod Rules
pub mod Tables
pub mod FaultText
pub mod Laws
