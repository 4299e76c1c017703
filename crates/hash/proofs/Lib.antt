pub mod Chunks
mod Steps
mod Chains
mod Closings
mod Folds
mod Roots
mod Streams
