pub mod Slots
pub mod Moves
