pub mod Kept
pub mod Steps
pub mod Counts
pub mod Following
