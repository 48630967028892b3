pub mod Serving
pub mod Calls
pub mod Reading
pub mod Replaying
