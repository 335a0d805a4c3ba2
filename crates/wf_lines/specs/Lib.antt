pub mod BegunLines
pub mod LineStages
pub mod Taking
