pub mod Data
pub mod Steps
pub mod Calling
pub mod Walking
