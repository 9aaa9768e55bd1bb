pub mod Pick
