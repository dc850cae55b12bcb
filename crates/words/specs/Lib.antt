pub mod Split
pub mod Digits
pub mod Table
pub mod Lines
pub mod Calls
pub mod Script
pub mod Printing
pub mod Programs
