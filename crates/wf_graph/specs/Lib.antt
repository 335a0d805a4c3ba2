pub mod Graph
pub mod Search
pub mod OneMore
pub mod Routes
pub mod Trails
