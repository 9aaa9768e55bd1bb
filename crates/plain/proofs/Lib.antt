pub mod Bounds
pub mod Keeping
pub mod Calls
pub mod Looking
