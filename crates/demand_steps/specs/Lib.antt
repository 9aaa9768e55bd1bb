pub mod Knowing
pub mod Watching
pub mod Typed
