pub mod Tables
pub mod Steps
pub mod Moves
pub mod Edits
pub mod Bridge
pub mod Counts
pub mod Following
pub mod Made
