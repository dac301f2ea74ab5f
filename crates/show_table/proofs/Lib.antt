pub mod Connections
pub mod Jobs
pub mod Bounds
pub mod Gone
pub mod Examples
