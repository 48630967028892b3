pub mod Runs
pub mod Law
pub mod Answering
pub mod Example
