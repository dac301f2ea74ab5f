pub mod Words
pub mod Arguments
pub mod Said
pub mod Bounds
pub mod Blind
pub mod Examples
