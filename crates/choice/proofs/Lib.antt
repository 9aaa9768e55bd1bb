pub mod Picks
pub mod Tests
