pub mod Inboxes
pub mod Keeping
pub mod Packed
pub mod Places
pub mod Told
