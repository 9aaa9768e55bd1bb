pub mod Recording
pub mod Portions
pub mod Entering
