pub mod Refusals
pub mod Levels
pub mod Making
