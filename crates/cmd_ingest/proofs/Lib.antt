pub mod HeadFirst
pub mod Ingesting
pub mod Labelling
pub mod NamedChildren
pub mod SomeIngestion
pub mod OneIngestion
pub mod GoodIngestion
