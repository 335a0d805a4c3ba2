pub mod Room
pub mod RowPairs
pub mod LiftedRows
pub mod LiftedTables
pub mod Alike
pub mod WitnessText
