pub mod Money
pub mod Thrown
pub mod Worked
