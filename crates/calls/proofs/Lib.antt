pub mod Gates
pub mod Written
