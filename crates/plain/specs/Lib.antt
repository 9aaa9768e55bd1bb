pub mod Plain
pub mod Taking
pub mod Looking
pub mod Within
