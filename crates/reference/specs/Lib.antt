pub mod Lists
pub mod Making
pub mod Turning
pub mod Filing
pub mod Shown
