pub mod Table
pub mod TailCalls
pub mod Sweeping
