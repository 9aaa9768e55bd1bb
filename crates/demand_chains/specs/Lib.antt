pub mod Chains
pub mod Plans
pub mod Promises
pub mod Progress
pub mod Starting
pub mod Sending
pub mod Turning
pub mod DemandThree
