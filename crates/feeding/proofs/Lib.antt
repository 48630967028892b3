pub mod Obeying
pub mod Following
pub mod Spelling
