pub mod Concerned
pub mod Headers
pub mod Words
pub mod Captures
pub mod Examples
