pub mod Channels
pub mod Pixels
pub mod Modes
pub mod Bytes
pub mod Areas
pub mod Pictures
