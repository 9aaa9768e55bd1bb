pub mod Rollbacks
