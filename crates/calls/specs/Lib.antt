pub mod Calls
pub mod Lending
pub mod Kinds
pub mod Sizes
