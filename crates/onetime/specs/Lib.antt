pub mod Blocks
pub mod Chains
pub mod Digits
pub mod Hashes
pub mod Meanings
pub mod Signatures
pub mod Trees
