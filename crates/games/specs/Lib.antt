pub mod Boards
pub mod Examples
pub mod House
pub mod Reading
pub mod Shelves
pub mod Stakes
pub mod Throws
