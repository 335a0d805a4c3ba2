pub mod AnsweredLines
pub mod NoMemoryOfLines
pub mod SomeQueries
pub mod OneQueries
pub mod GoodQueries
