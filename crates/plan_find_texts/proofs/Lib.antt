pub mod Names
pub mod Joining
