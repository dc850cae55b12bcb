pub mod View
pub mod Rows
pub mod Applying
pub mod Arranging
