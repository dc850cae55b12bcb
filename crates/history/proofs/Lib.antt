pub mod Standing
pub mod Histories
pub mod Rows
