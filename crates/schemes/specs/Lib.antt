pub mod Calls
pub mod Meaning
pub mod Pages
pub mod Places
pub mod Registers
