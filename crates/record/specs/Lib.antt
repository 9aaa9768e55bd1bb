pub mod Fields
pub mod Answers
pub mod Leaves
pub mod Given
