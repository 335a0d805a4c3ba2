pub mod ReadBack
pub mod ConsultWritten
