pub mod Logged
pub mod Holding
