pub mod Requests
pub mod Sizes
pub mod Places
pub mod Orders
