pub mod Areas
pub mod Blocks
