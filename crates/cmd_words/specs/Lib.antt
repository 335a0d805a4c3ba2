pub mod Words
pub mod AutoTold
pub mod LiftedViews
pub mod Prepared
pub mod Does
pub mod Family
