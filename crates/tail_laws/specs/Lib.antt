pub mod TailChains
