pub mod Mates
pub mod Showing
