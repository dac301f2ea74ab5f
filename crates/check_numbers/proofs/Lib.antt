pub mod Serials
pub mod Functions
pub mod Connections
