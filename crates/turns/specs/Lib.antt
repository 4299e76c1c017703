pub mod Bytes
pub mod Kinds
pub mod Lawful
pub mod Layout
pub mod Proper
pub mod Refusals
pub mod Words
pub mod Written
