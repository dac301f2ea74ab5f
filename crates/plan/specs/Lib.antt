pub mod Values
pub mod Settling
pub mod Parts
pub mod Busy
pub mod Steps
pub mod Plans
