pub mod Lists
pub mod Matching
pub mod Canonical
pub mod Meanings
pub mod Rules
pub mod Theorems
pub mod Keeping
pub mod Figures
