pub mod Views
pub mod Layering
mod Rowing
mod Moving
mod Placing
mod Arranged
mod Setting
mod Unbuilt
