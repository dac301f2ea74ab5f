pub mod Bounds
pub mod Parts
pub mod Lines
pub mod Texts
pub mod Examples
