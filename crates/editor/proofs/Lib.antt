mod Filing
pub mod Coming
pub mod Theorems
pub mod Promised
pub mod Scripts
pub mod Decoding
mod Desks
mod Onward
