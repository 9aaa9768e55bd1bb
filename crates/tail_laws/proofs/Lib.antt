pub mod Records
pub mod Tables
pub mod Calls
pub mod Chains
pub mod Findings
pub mod Afterwards
pub mod Unique
pub mod Stamped
