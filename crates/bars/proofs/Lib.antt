pub mod Passing
pub mod Verdicts
