pub mod Rows
pub mod Refusals
pub mod Through
pub mod Marks
pub mod Retired
pub mod Numbers
