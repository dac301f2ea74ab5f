pub mod Padding
pub mod Names
