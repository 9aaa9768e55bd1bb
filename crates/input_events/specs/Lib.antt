pub mod Events
pub mod Meaning
