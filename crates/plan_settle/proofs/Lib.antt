pub mod Turns
pub mod Sleepers
