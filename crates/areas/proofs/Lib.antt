pub mod Over
pub mod Blocks
pub mod Laws
