pub mod Bounds
pub mod Steps
pub mod Pictures
pub mod Differing
pub mod Selected
