pub mod Lone
