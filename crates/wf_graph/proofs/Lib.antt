pub mod Searching
pub mod Rows
pub mod Deriving
pub mod Edges
pub mod Orders
pub mod Routes
pub mod Trails
pub mod Tracking
