mod Levels
mod Made
mod Nibbles
mod Runs
mod Siblings
mod States
mod Steps
mod Theorems
