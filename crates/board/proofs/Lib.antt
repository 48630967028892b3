pub mod Answering
pub mod Copying
pub mod Counting
pub mod Changing
pub mod Stepping
