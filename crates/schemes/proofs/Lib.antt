pub mod Ladders
pub mod Places
pub mod Kept
pub mod Entries
