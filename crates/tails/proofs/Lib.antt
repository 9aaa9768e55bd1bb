pub mod Settling
pub mod Adding
pub mod Removing
pub mod Advancing
