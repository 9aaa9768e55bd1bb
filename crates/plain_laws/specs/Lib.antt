pub mod Known
pub mod Agreement
