pub mod Meters
pub mod Steps
pub mod Law
pub mod Chain
