pub mod Ranges
pub mod Inverse
