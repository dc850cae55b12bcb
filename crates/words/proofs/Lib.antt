pub mod Splitting
pub mod Numerals
pub mod Rows
pub mod Reading
pub mod Going
pub mod Playing
pub mod Pieces
