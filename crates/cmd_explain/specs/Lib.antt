pub mod Words
pub mod Listings
pub mod Reasons
pub mod Does
pub mod Family
pub mod Verifying
