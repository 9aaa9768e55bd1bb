pub mod Meant
pub mod Calling
