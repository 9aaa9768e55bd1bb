pub mod Digesting
