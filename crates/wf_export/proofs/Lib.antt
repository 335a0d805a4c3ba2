pub mod Texts
pub mod Perceiving
pub mod InstanceLines
pub mod ItemLines
pub mod LinkLines
pub mod WholeText
