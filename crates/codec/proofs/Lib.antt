pub mod Sound
pub mod Complete
pub mod Means
pub mod Told
pub mod Rows
pub mod Files
pub mod Writes
pub mod Growing
