pub mod Sha256
pub mod Streaming
pub mod Roots
