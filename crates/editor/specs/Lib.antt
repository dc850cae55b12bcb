pub mod Promises
pub mod Runs
pub mod Theorems
pub mod Main
pub mod Script
pub mod Desks
pub mod Row
