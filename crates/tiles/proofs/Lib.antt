pub mod Offsets
pub mod Grids
pub mod Seeing
pub mod Kept
