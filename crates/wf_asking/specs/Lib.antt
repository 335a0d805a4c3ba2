pub mod Queries
pub mod Batched
pub mod GoodQueries
