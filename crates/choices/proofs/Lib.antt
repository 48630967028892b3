pub mod Showing
pub mod Joining
pub mod Adding
pub mod Turns
pub mod Clearing
pub mod Answering
pub mod Scans
